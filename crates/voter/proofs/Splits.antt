-- Request K5 with two valid channels, in its words: over any number of samples the sensor is invalid exactly if somewhere three in a row had
-- the two differ. So a strike begins the count at 0, and agreement sets it to 0.
-- Assumes nothing.
use Prim.Native.Nat.{ℕ, zero, suc, ◌+◌, ◌≤◌}
use native.Mathlib.Omega.{arith}
use mathlib.Core.Bool.{Bool, true, false, beq}
use mathlib.Core.List.{List, [], ◌∷◌, ◌++◌, append_assoc}
use mathlib.Core.Logic.{◌↔◌, ◌⊎◌, inl, inr}
use mathlib.Core.Path.{◌≡◌, ◌∙◌, refl, sym, ap, subst, subst⁻¹}
use lib.Dec.{T, eqb}
use Rattle.voter.specs.Voting.{differ_in_a_row, of_two, fresh_with, voted_by, voted, value_of, none_left, is_invalid, valid_channels}
use Rattle.voter.specs.Numbers.{channels_at}
use Rattle.voter.specs.Counts.{has_two}
use Rattle.voter.specs.Runs.{Reading, odd_in, majority, agree, differ, heard, heard_all, ThreeDiffer}
use Rattle.voter.specs.declared.Channels.{Channels}
use Rattle.voter.specs.declared.Channels.TheVariants.{All, Without1, Without2, Without3, Nothing}
use Rattle.voter.specs.declared.Voter.{Voter}
use Rattle.voter.proofs.Laws.{all_is_valid, majority_told, fresh_is_valid}
use Rattle.voter.proofs.Odd.{odd_to_3, comes, Comes}
use Rattle.voter.proofs.Outcomes.{OfTwo, of_two_lem}
use Rattle.voter.proofs.Outcomes.OfThree.{agreed, suspected, struck}
use Rattle.voter.proofs.Outcomes.OfTwo.{together, doubted, lost}
use Rattle.voter.proofs.Runs.{at_the_end, three_later, heard_in_turn, heard_last, over_readings, still_gone, stays_gone}

-- ---- One sample

-- What a vote comes to.
comes_of_two : (v : Voter) → T (has_two v) → (r : Reading) → OfTwo v (differ v.channels r) (heard v r)
unfolding voted voted_by valid_channels
comes_of_two v left r = by v.channels left
  where
    by : (ch : Channels) → T (eqb (valid_channels ch) 2) → OfTwo v (differ ch r) (voted_by ch v r.0 r.1 r.2)
    by All left = absurd left
    by Without1 left = of_two_lem v r.1 r.2
    by Without2 left = of_two_lem v r.0 r.2
    by Without3 left = of_two_lem v r.0 r.1
    by Nothing left = absurd left

-- At every sample in which they differ the last value is kept, at the third too.
kept_by_a_split : (v : Voter) → T (has_two v) → (r : Reading) → T (differ v.channels r) → value_of (heard v r) ≡ value_of v
unfolding value_of
kept_by_a_split v left r apart = by (heard v r) (comes_of_two v left r)
  where
    by : (w : Voter) → OfTwo v (differ v.channels r) w → w.held ≡ v.held
    by w (together value same) = absurd (subst T same apart)
    by w (doubted differs few) = refl
    by w (lost differs many) = refl

pub split_keeps_the_value :
    (v : Voter) (rs : List Reading) (r : Reading) →
    (let before = heard_all v rs in
    T (has_two before) →
    T (differ before.channels r) →
    value_of (heard_all v (rs ++ r ∷ [])) ≡ value_of before)
split_keeps_the_value v rs r left apart = ap value_of (heard_last v rs r) ∙ kept_by_a_split (heard_all v rs) left r apart

-- Where they agree the value is theirs, which is that of the majority, whatever the struck one says.
two_agree : (v : Voter) (a b : Bool) → T (beq a b) → ((of_two v a b).held ≡ a) × (a ≡ b)
unfolding of_two
two_agree v true true same = (refl, refl)
two_agree v true false same = absurd same
two_agree v false true same = absurd same
two_agree v false false same = (refl, refl)

told_by_two : (v : Voter) → T (has_two v) → (r : Reading) → T (agree v.channels r) → value_of (heard v r) ≡ majority r
unfolding voted voted_by valid_channels value_of
told_by_two v left r same = by v.channels left same
  where
    by : (ch : Channels) → T (eqb (valid_channels ch) 2) → T (agree ch r) → (voted_by ch v r.0 r.1 r.2).held ≡ majority r
    by All left same = absurd left
    by Without1 left same = let both = two_agree v r.1 r.2 same in both.0 ∙ sym (rw (← both.1) (majority_told r.1 r.0).2)
    by Without2 left same = let both = two_agree v r.0 r.2 same in both.0 ∙ sym (rw (← both.1) (majority_told r.0 r.1).1)
    by Without3 left same = let both = two_agree v r.0 r.1 same in both.0 ∙ sym (rw (← both.1) (majority_told r.0 r.2).0)
    by Nothing left same = absurd left

pub agreement_is_heard :
    (v : Voter) (rs : List Reading) (r : Reading) →
    (let before = heard_all v rs in
    T (has_two before) →
    T (agree before.channels r) →
    value_of (heard_all v (rs ++ r ∷ [])) ≡ majority r)
agreement_is_heard v rs r left same = ap value_of (heard_last v rs r) ∙ told_by_two (heard_all v rs) left r same

-- With two valid channels a sensor is not invalid.
pub two_are_valid : (v : Voter) → T (has_two v) → is_invalid v ≡ false
unfolding is_invalid valid_channels
two_are_valid v left = by v.channels left
  where
    by : (ch : Channels) → T (eqb (valid_channels ch) 2) → none_left ch ≡ false
    by All left = refl
    by Without1 left = refl
    by Without2 left = refl
    by Without3 left = refl
    by Nothing left = absurd left

-- A strike leaves two.
strike_leaves_two : (k : ℕ) → 1 ≤ k → k ≤ 3 → T (eqb (valid_channels (channels_at k)) 2)
unfolding channels_at valid_channels
strike_leaves_two zero low high = absurd (omega arith)
strike_leaves_two (suc zero) low high = tt
strike_leaves_two (suc (suc zero)) low high = tt
strike_leaves_two (suc (suc (suc zero))) low high = tt
strike_leaves_two (suc (suc (suc (suc k)))) low high = absurd (omega arith)

-- ---- What has been heard tells what was counted

-- Behind a sensor that has heard these readings: all channels are valid; two are, and none of the last readings, the last one or the last two
-- had them differ; or none is left, and somewhere three in a row had.
data Behind (v : Voter) : List Reading → Voter → Type 0 where
  all : {rs : List Reading} {w : Voter} → w.channels ≡ All → Behind v rs w
  nothing : {rs : List Reading} {w : Voter} → T (has_two w) → w.count ≡ 0 → Behind v rs w
  one :
      (rs : List Reading) (a : Reading) {w : Voter} →
      T (has_two w) → (heard_all v rs).channels ≡ w.channels → w.count ≡ 1 → T (differ w.channels a) →
      Behind v (rs ++ a ∷ []) w
  two :
      (rs : List Reading) (a b : Reading) {w : Voter} →
      T (has_two w) → (heard_all v rs).channels ≡ w.channels → w.count ≡ 2 → T (differ w.channels a) → T (differ w.channels b) →
      Behind v (rs ++ a ∷ b ∷ []) w
  end : {rs : List Reading} {w : Voter} → w.channels ≡ Nothing → ThreeDiffer v rs → Behind v rs w

module _ (v : Voter) (r : Reading) where
  -- Behind a further vote, by what was behind the sensor before it.
  from_all : (rs : List Reading) (w u : Voter) → Comes w r u → Behind v (rs ++ r ∷ []) u
  from_all rs w u (agreed quiet) = all refl
  from_all rs w u (suspected low few) = all refl
  from_all rs w u (struck low many) = nothing (strike_leaves_two (odd_in r) low (odd_to_3 r)) refl

  from_nothing :
      (rs : List Reading) (w : Voter) →
      w ≡ heard_all v rs → T (has_two w) → w.count ≡ 0 →
      (u : Voter) → OfTwo w (differ w.channels r) u → Behind v (rs ++ r ∷ []) u
  from_nothing rs w is left none u (together value same) = nothing left refl
  from_nothing rs w is left none u (doubted differs few) =
      let counted : differ_in_a_row w ≡ 1 = omega arith in one rs r left (ap (λ (x : Voter). x.channels) (sym is)) counted (subst⁻¹ T differs tt)
  from_nothing rs w is left none u (lost differs many) = absurd (omega arith)

  from_one :
      (rs : List Reading) (a : Reading) (w : Voter) →
      T (has_two w) → (heard_all v rs).channels ≡ w.channels → w.count ≡ 1 → T (differ w.channels a) →
      (u : Voter) → OfTwo w (differ w.channels r) u → Behind v ((rs ++ a ∷ []) ++ r ∷ []) u
  from_one rs a w left same counted first u (together value again) = nothing left refl
  from_one rs a w left same once first u (doubted differs few) =
      let twice : differ_in_a_row w ≡ 2 = omega arith in
      subst⁻¹ (λ (l : List Reading). Behind v l u) (append_assoc rs (a ∷ []) (r ∷ []))
      (two rs a r left same twice first (subst⁻¹ T differs tt))
  from_one rs a w left same counted first u (lost differs many) = absurd (omega arith)

  from_two :
      (rs : List Reading) (a b : Reading) (w : Voter) →
      T (has_two w) → (heard_all v rs).channels ≡ w.channels → w.count ≡ 2 → T (differ w.channels a) → T (differ w.channels b) →
      (u : Voter) → OfTwo w (differ w.channels r) u → Behind v ((rs ++ a ∷ b ∷ []) ++ r ∷ []) u
  from_two rs a b w left same counted first second u (together value again) = nothing left refl
  from_two rs a b w left same counted first second u (doubted differs few) = absurd (omega arith)
  from_two rs a b w left same counted first second u (lost differs many) =
      end refl
      (record {
        three = at_the_end rs a b r;
        two_valid = subst⁻¹ (λ (ch : Channels). T (eqb (valid_channels ch) 2)) same left;
        differing = subst⁻¹ (λ (ch : Channels). T (differ ch a) × T (differ ch b) × T (differ ch r)) same (first, second, subst⁻¹ T differs tt);
      })

-- One more reading is behind it.
one_later : (v : Voter) (rs : List Reading) (r : Reading) → ThreeDiffer v rs → ThreeDiffer v (rs ++ r ∷ [])
one_later v rs r h = record { three = three_later rs r h.three; two_valid = h.two_valid; differing = h.differing }

next_behind : (v : Voter) (rs : List Reading) (w : Voter) → w ≡ heard_all v rs → Behind v rs w → (r : Reading) → Behind v (rs ++ r ∷ []) (heard w r)
next_behind v rs w is (all valid) r = from_all v r rs w (heard w r) (comes w valid r)
next_behind v rs w is (nothing left none) r = from_nothing v r rs w is left none (heard w r) (comes_of_two w left r)
next_behind v rs w is (one rs₀ a left same counted first) r =
    from_one v r rs₀ a w left same counted first (heard w r) (comes_of_two w left r)
next_behind v rs w is (two rs₀ a b left same counted first second) r =
    from_two v r rs₀ a b w left same counted first second (heard w r) (comes_of_two w left r)
next_behind v rs w is (end none row) r = end (still_gone w none r) (one_later v rs r row)

invalid_had_three : (v : Voter) → Behind v [] v → (rs : List Reading) → T (is_invalid (heard_all v rs)) → ThreeDiffer v rs
invalid_had_three v start rs invalid = by (heard_all v rs) invalid (over_readings v (Behind v) start (next_behind v) rs)
  where
    by : {rs : List Reading} (w : Voter) → T (is_invalid w) → Behind v rs w → ThreeDiffer v rs
    by w invalid (all valid) = absurd (subst T (all_is_valid w valid) invalid)
    by w invalid (nothing left none) = absurd (subst T (two_are_valid w left) invalid)
    by w invalid (one rs₀ a left same counted first) = absurd (subst T (two_are_valid w left) invalid)
    by w invalid (two rs₀ a b left same counted first second) = absurd (subst T (two_are_valid w left) invalid)
    by w invalid (end none row) = row

-- ---- And where three in a row had them differ none is left.

-- They differ: one more is counted, or none is left.
counted_or_gone :
    (v : Voter) → T (has_two v) → (r : Reading) → T (differ v.channels r) →
    ((heard v r).channels ≡ Nothing) ⊎ (((heard v r).channels ≡ v.channels) × ((heard v r).count ≡ v.count + 1))
counted_or_gone v left r apart = by (heard v r) (comes_of_two v left r)
  where
    by :
        (w : Voter) → OfTwo v (differ v.channels r) w →
        (w.channels ≡ Nothing) ⊎ ((w.channels ≡ v.channels) × (w.count ≡ v.count + 1))
    by w (together value same) = absurd (subst T same apart)
    by w (doubted differs few) = inr (refl, refl)
    by w (lost differs many) = inl refl

gone_at_the_third : (v : Voter) → T (has_two v) → 2 ≤ v.count → (r : Reading) → T (differ v.channels r) → (heard v r).channels ≡ Nothing
gone_at_the_third v left many r apart = by (heard v r) (comes_of_two v left r)
  where
    by : (w : Voter) → OfTwo v (differ v.channels r) w → w.channels ≡ Nothing
    by w (together value same) = absurd (subst T same apart)
    by w (doubted differs few) = absurd (omega arith)
    by w (lost differs more) = refl

three_differ_none_is_left :
    (w : Voter) → T (has_two w) → (a b c : Reading) →
    T (differ w.channels a) → T (differ w.channels b) → T (differ w.channels c) →
    (heard (heard (heard w a) b) c).channels ≡ Nothing
three_differ_none_is_left w left a b c first second third = after_one (counted_or_gone w left a first)
  where
    as_before : (u : Voter) → u.channels ≡ w.channels → T (has_two u)
    as_before u same = subst⁻¹ (λ (ch : Channels). T (eqb (valid_channels ch) 2)) same left

    apart : (u : Voter) → u.channels ≡ w.channels → (r : Reading) → T (differ w.channels r) → T (differ u.channels r)
    apart u same r = subst⁻¹ (λ (ch : Channels). T (differ ch r)) same

    after_two :
        (heard w a).channels ≡ w.channels → (heard w a).count ≡ w.count + 1 →
        ((heard (heard w a) b).channels ≡ Nothing) ⊎
        (((heard (heard w a) b).channels ≡ (heard w a).channels) × ((heard (heard w a) b).count ≡ (heard w a).count + 1)) →
        (heard (heard (heard w a) b) c).channels ≡ Nothing
    after_two same more (inl none) = still_gone (heard (heard w a) b) none c
    after_two same more (inr still) =
        let u = heard (heard w a) b in
        let now : u.channels ≡ w.channels = still.0 ∙ same in
        gone_at_the_third u (as_before u now) (omega (arith, more, still.1)) c (apart u now c third)

    after_one :
        ((heard w a).channels ≡ Nothing) ⊎ (((heard w a).channels ≡ w.channels) × ((heard w a).count ≡ w.count + 1)) →
        (heard (heard (heard w a) b) c).channels ≡ Nothing
    after_one (inl none) = still_gone (heard (heard w a) b) (still_gone (heard w a) none b) c
    after_one (inr still) =
        after_two still.0 still.1
        (counted_or_gone (heard w a) (as_before (heard w a) still.0) b (apart (heard w a) still.0 b second))

three_is_invalid : (v : Voter) (rs : List Reading) → ThreeDiffer v rs → T (is_invalid (heard_all v rs))
unfolding heard_all is_invalid
three_is_invalid v rs row =
    let at = row.three in
    let w = heard_all v at.earlier in
    let apart = row.differing in
    let gone = three_differ_none_is_left w row.two_valid at.first at.second at.third apart.0 apart.1 apart.2 in
    let now : heard_all v rs ≡ heard_all w (at.first ∷ at.second ∷ at.third ∷ at.later) =
    ap (heard_all v) at.in_a_row ∙ heard_in_turn v at.earlier (at.first ∷ at.second ∷ at.third ∷ at.later)
    in
    subst⁻¹ (λ (u : Voter). T (none_left u.channels)) now (subst⁻¹ (λ (ch : Channels). T (none_left ch)) (stays_gone _ gone at.later) tt)

-- From any sensor that is not invalid and has its count at 0, ..
pub invalid_exactly :
    (v : Voter) → is_invalid v ≡ false → v.count ≡ 0 → (rs : List Reading) → T (is_invalid (heard_all v rs)) ↔ ThreeDiffer v rs
unfolding is_invalid valid_channels
invalid_exactly v valid none rs = (invalid_had_three v (start v.channels refl) rs, three_is_invalid v rs)
  where
    left : (ch : Channels) → v.channels ≡ ch → T (eqb (valid_channels ch) 2) → Behind v [] v
    left ch is both = nothing (subst⁻¹ (λ (c : Channels). T (eqb (valid_channels c) 2)) is both) none

    start : (ch : Channels) → v.channels ≡ ch → Behind v [] v
    start All is = all is
    start Without1 is = left Without1 is tt
    start Without2 is = left Without2 is tt
    start Without3 is = left Without3 is tt
    start Nothing is = absurd (subst T (sym (ap none_left is) ∙ valid) tt)

-- .. as a fresh one is.
pub fresh_invalid_exactly : (held : Bool) (rs : List Reading) → T (is_invalid (heard_all (fresh_with held) rs)) ↔ ThreeDiffer (fresh_with held) rs
unfolding fresh_with
fresh_invalid_exactly held = invalid_exactly (fresh_with held) (fresh_is_valid held) refl
