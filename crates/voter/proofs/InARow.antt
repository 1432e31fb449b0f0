-- Request K5 over any number of samples, in its words: a channel is struck exactly if somewhere three in a row had it as the odd one while
-- all were valid.
-- Assumes nothing.
use Prim.Native.Nat.{ℕ, ◌≤◌}
use native.Mathlib.Omega.{arith}
use mathlib.Core.Bool.{Bool, true, false}
use mathlib.Core.List.{List, [], ◌∷◌, ◌++◌, append_assoc}
use mathlib.Core.Logic.{◌↔◌}
use mathlib.Core.Path.{◌≡◌, ◌∙◌, refl, sym, ap, subst, subst⁻¹}
use lib.Dec.{T, eqb, eqb→eq, eqb_refl}
use borrow.Author.Tests.{eqb-true, eqb-false}
use Rattle.voter.specs.Voting.{fresh_with, none_left, is_invalid}
use Rattle.voter.specs.Numbers.{channels_number, channels_at, number_of}
use Rattle.voter.specs.Runs.{Reading, odd_in, heard, heard_all, is_struck, ThreeOdd}
use Rattle.voter.specs.declared.Channels.{Channels}
use Rattle.voter.specs.declared.Channels.TheVariants.{All, Nothing}
use Rattle.voter.specs.declared.Voter.{Voter}
use Rattle.voter.proofs.Numbering.{number_at, all_has_0}
use Rattle.voter.proofs.Laws.{same_or_none, all_is_valid}
use Rattle.voter.proofs.Odd.{odd_to_3, comes, first_in_a_row, at_most_one_more, is_odd_lem, same_in_a_row, other_in_a_row, struck_is_not_all, strikes_at_the_third, Comes}
use Rattle.voter.proofs.Outcomes.OfThree.{agreed, suspected, struck}
use Rattle.voter.proofs.Runs.{three_later, at_the_end, heard_in_turn, over_readings, still_gone, struck_stays}

-- ---- Over any number of samples: what has been heard tells what was counted

-- Behind a sensor that has heard these readings: nothing is counted; the last one, or the last two, had its odd channel as the odd one;
-- a channel is struck, and three in a row had it so; or the sensor is invalid, and three in a row had struck a channel before.
data Behind (v : Voter) : List Reading → Voter → Type 0 where
  nothing : {rs : List Reading} {w : Voter} → w.channels ≡ All → w.count ≡ 0 → Behind v rs w
  one : (rs : List Reading) (a : Reading) {w : Voter} → w.channels ≡ All → w.count ≡ 1 → odd_in a ≡ w.odd → Behind v (rs ++ a ∷ []) w
  two :
      (rs : List Reading) (a b : Reading) {w : Voter} →
      w.channels ≡ All → w.count ≡ 2 → odd_in a ≡ w.odd → odd_in b ≡ w.odd →
      Behind v (rs ++ a ∷ b ∷ []) w
  three : {rs : List Reading} {w : Voter} (k : ℕ) → k ≤ 3 → w.channels ≡ channels_at k → ThreeOdd k v rs → Behind v rs w
  end : {rs : List Reading} {w : Voter} (k : ℕ) → w.channels ≡ Nothing → ThreeOdd k v rs → Behind v rs w

module _ (v : Voter) (r : Reading) where
  -- Behind a vote with all channels valid, by what was behind the sensor before it.
  from_nothing : (rs : List Reading) (w : Voter) → w.count ≡ 0 → (u : Voter) → Comes w r u → Behind v (rs ++ r ∷ []) u
  from_nothing rs w none u (agreed quiet) = nothing refl refl
  from_nothing rs w none u (suspected low few) = one rs r refl (first_in_a_row w none (odd_in r)) refl
  from_nothing rs w none u (struck low many) = absurd (omega (arith, first_in_a_row w none (odd_in r)))

  from_one : (rs : List Reading) (a : Reading) (w : Voter) → w.count ≡ 1 → odd_in a ≡ w.odd → (u : Voter) → Comes w r u → Behind v ((rs ++ a ∷ []) ++ r ∷ []) u
  from_one rs a w counted odd u (agreed quiet) = nothing refl refl
  from_one rs a w counted odd u (suspected low few) = by (eqb w.odd (odd_in r)) refl
    where
      by : (same : Bool) → eqb w.odd (odd_in r) ≡ same → Behind v ((rs ++ a ∷ []) ++ r ∷ []) u
      by true e =
          let same : w.odd ≡ odd_in r = eqb-true w.odd (odd_in r) e in
          subst⁻¹ (λ (l : List Reading). Behind v l u) (append_assoc rs (a ∷ []) (r ∷ []))
          (two rs a r refl (omega (arith, same_in_a_row w (odd_in r) same)) (odd ∙ same) refl)
      by false e = one (rs ++ a ∷ []) r refl (other_in_a_row w (odd_in r) (eqb-false w.odd (odd_in r) e)) refl
  from_one rs a w counted odd u (struck low many) = absurd (omega (arith, at_most_one_more w (odd_in r)))

  from_two :
      (rs : List Reading) (a b : Reading) (w : Voter) →
      w ≡ heard_all v (rs ++ a ∷ b ∷ []) → w.channels ≡ All → w.count ≡ 2 → odd_in a ≡ w.odd → odd_in b ≡ w.odd →
      (u : Voter) → Comes w r u → Behind v ((rs ++ a ∷ b ∷ []) ++ r ∷ []) u
  from_two rs a b w is all counted first second u (agreed quiet) = nothing refl refl
  from_two rs a b w is all counted first second u (suspected low few) =
      one (rs ++ a ∷ b ∷ []) r refl
      (other_in_a_row w (odd_in r) (λ same. omega (arith, same_in_a_row w (odd_in r) same))) refl
  from_two rs a b w is all counted first second u (struck low many) = by (eqb w.odd (odd_in r)) refl
    where
      by : (same : Bool) → eqb w.odd (odd_in r) ≡ same → Behind v ((rs ++ a ∷ b ∷ []) ++ r ∷ []) u
      by true e =
          let same : w.odd ≡ odd_in r = eqb-true w.odd (odd_in r) e in
          three (odd_in r) (odd_to_3 r) refl
          (record {
            channel = low;
            three = at_the_end rs a b r;
            odd = (is_odd_lem (odd_in r) a (first ∙ same), is_odd_lem (odd_in r) b (second ∙ same), is_odd_lem (odd_in r) r refl);
            all_valid = ap (λ (x : Voter). x.channels) (sym is) ∙ all;
          })
      by false e = absurd (omega (arith, other_in_a_row w (odd_in r) (eqb-false w.odd (odd_in r) e)))

-- One more reading is behind it.
one_later : (k : ℕ) (v : Voter) (rs : List Reading) (r : Reading) → ThreeOdd k v rs → ThreeOdd k v (rs ++ r ∷ [])
one_later k v rs r h = record { channel = h.channel; three = three_later rs r h.three; odd = h.odd; all_valid = h.all_valid }

next_behind : (v : Voter) (rs : List Reading) (w : Voter) → w ≡ heard_all v rs → Behind v rs w → (r : Reading) → Behind v (rs ++ r ∷ []) (heard w r)
next_behind v rs w is (nothing all none) r = from_nothing v r rs w none (heard w r) (comes w all r)
next_behind v rs w is (one rs₀ a all counted odd) r = from_one v r rs₀ a w counted odd (heard w r) (comes w all r)
next_behind v rs w is (two rs₀ a b all counted first second) r = from_two v r rs₀ a b w is all counted first second (heard w r) (comes w all r)
next_behind v rs w is (three k high left row) r =
    same_or_none (λ (ch : Channels). (u : Voter) → u.channels ≡ ch → Behind v (rs ++ r ∷ []) u) w
    (λ all. struck_is_not_all k high row.channel (sym left ∙ all)) r.0 r.1 r.2
    (λ u same. three k high (same ∙ left) (one_later k v rs r row))
    (λ u none. end k none (one_later k v rs r row))
    (heard w r) refl
next_behind v rs w is (end k none row) r =
    end k (still_gone w none r) (one_later k v rs r row)

behind : (v : Voter) → v.channels ≡ All → v.count ≡ 0 → (rs : List Reading) → Behind v rs (heard_all v rs)
behind v all none = over_readings v (Behind v) (nothing all none) (next_behind v)

-- ---- A channel is struck exactly if somewhere three in a row had it as the odd one while all were valid.

module _ (v : Voter) (all : v.channels ≡ All) (none : v.count ≡ 0) (k : ℕ) (channel : 1 ≤ k) where
  struck_had_three_in_a_row :
      (rs : List Reading) →
      is_invalid (heard_all v rs) ≡ false →
      T (is_struck k (heard_all v rs)) →
      ThreeOdd k v rs
  unfolding number_of is_invalid
  struck_had_three_in_a_row rs valid is = by (heard_all v rs) valid (eqb→eq _ k is) (behind v all none rs)
    where
      by : {rs : List Reading} (w : Voter) → none_left w.channels ≡ false → channels_number w.channels ≡ k → Behind v rs w → ThreeOdd k v rs
      by w valid is (nothing all none) = absurd (omega (arith, ap channels_number all))
      by w valid is (one rs₀ a all counted odd) = absurd (omega (arith, ap channels_number all))
      by w valid is (two rs₀ a b all counted first second) = absurd (omega (arith, ap channels_number all))
      by {rs} w valid is (three j high left row) =
          subst (λ (n : ℕ). ThreeOdd n v rs) (sym (number_at j (omega arith)) ∙ sym (ap channels_number left) ∙ is) row
      by w valid is (end j gone row) = absurd (subst T (sym (ap none_left gone) ∙ valid) tt)

-- And where they had, it is struck.

three_in_a_row_strike :
    (v : Voter) (k : ℕ) (rs : List Reading) →
    is_invalid (heard_all v rs) ≡ false →
    ThreeOdd k v rs →
    T (is_struck k (heard_all v rs))
unfolding heard_all number_of
three_in_a_row_strike v k rs valid row =
    let a = row.three.first in
    let b = row.three.second in
    let c = row.three.third in
    let earlier = row.three.earlier in
    let later = row.three.later in
    let w = heard_all v earlier in
    let first : odd_in a ≡ k = eqb→eq (odd_in a) k row.odd.0 in
    let high : k ≤ 3 = omega (arith, odd_to_3 a) in
    let all_at_two : (heard (heard w a) b).channels ≡ All =
    ap (λ (u : Voter). u.channels) (sym (heard_in_turn v earlier (a ∷ b ∷ []))) ∙ row.all_valid
    in
    let at_three : (heard (heard (heard w a) b) c).channels ≡ channels_at k =
    strikes_at_the_third k row.channel w a b c first (eqb→eq (odd_in b) k row.odd.1) (eqb→eq (odd_in c) k row.odd.2) all_at_two
    in
    let now : heard_all v rs ≡ heard_all (heard (heard (heard w a) b) c) later =
    ap (heard_all v) row.three.in_a_row ∙ heard_in_turn v earlier (a ∷ b ∷ c ∷ later)
    in
    let left =
    struck_stays (channels_at k) (struck_is_not_all k high row.channel) (heard (heard (heard w a) b) c) at_three later
    (ap is_invalid (sym now) ∙ valid)
    in
    subst⁻¹ (λ (n : ℕ). T (eqb n k))
    (ap (λ (u : Voter). channels_number u.channels) now ∙ ap channels_number left ∙ number_at k (omega arith)) (eqb_refl k)

-- From all valid and count 0, as a fresh sensor is.
pub struck_exactly :
    (v : Voter) →
    v.channels ≡ All →
    v.count ≡ 0 →
    (k : ℕ) →
    1 ≤ k →
    (rs : List Reading) →
    is_invalid (heard_all v rs) ≡ false →
    T (is_struck k (heard_all v rs)) ↔ ThreeOdd k v rs
struck_exactly v all none k channel rs valid =
    (struck_had_three_in_a_row v all none k channel rs valid, three_in_a_row_strike v k rs valid)

pub fresh_struck_exactly :
    (held : Bool) (k : ℕ) →
    1 ≤ k →
    (rs : List Reading) →
    is_invalid (heard_all (fresh_with held) rs) ≡ false →
    T (is_struck k (heard_all (fresh_with held) rs)) ↔ ThreeOdd k (fresh_with held) rs
unfolding fresh_with
fresh_struck_exactly held = struck_exactly (fresh_with held) refl refl

-- All channels stay valid exactly if none has been the odd one three times in a row: other bounces are forgiven, however many there are.
pub all_valid_exactly :
    (v : Voter) →
    v.channels ≡ All →
    v.count ≡ 0 →
    (rs : List Reading) →
    ((heard_all v rs).channels ≡ All) ↔ ((k : ℕ) → ThreeOdd k v rs → ⊥)
all_valid_exactly v all none rs = (no_three, by (heard_all v rs) (behind v all none rs))
  where
    no_three : (heard_all v rs).channels ≡ All → (k : ℕ) → ThreeOdd k v rs → ⊥
    no_three valid k row =
        let number : number_of (heard_all v rs) ≡ k = eqb→eq _ k (three_in_a_row_strike v k rs (all_is_valid (heard_all v rs) valid) row) in
        omega (arith, all_has_0 (heard_all v rs) valid, row.channel)

    by : {rs : List Reading} (w : Voter) → Behind v rs w → ((k : ℕ) → ThreeOdd k v rs → ⊥) → w.channels ≡ All
    by w (nothing valid quiet) forgiven = valid
    by w (one rs₀ a valid counted odd) forgiven = valid
    by w (two rs₀ a b valid counted first second) forgiven = valid
    by w (three k high left row) forgiven = absurd (forgiven k row)
    by w (end k gone row) forgiven = absurd (forgiven k row)
