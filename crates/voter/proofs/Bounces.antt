-- Request K5, in its words: what two samples do, and three.
-- Assumes nothing.
use Prim.Native.Nat.{ℕ, ◌≤◌}
use mathlib.Core.Bool.{Bool, true, false}
use mathlib.Core.List.{List, [], ◌∷◌}
use mathlib.Core.Logic.{◌↔◌}
use mathlib.Core.Path.{◌≡◌, refl, subst, subst⁻¹}
use lib.Dec.{T, eqb}
use Rattle.voter.specs.Voting.{is_invalid, valid_channels}
use Rattle.voter.specs.Counts.{has_two}
use Rattle.voter.specs.Runs.{Reading, is_odd, differ, heard_all, is_struck, ThreeOdd, ThreeDiffer}
use Rattle.voter.specs.declared.Channels.{Channels}
use Rattle.voter.specs.declared.Channels.TheVariants.{All}
use Rattle.voter.specs.declared.Voter.{Voter}
use Rattle.voter.proofs.Runs.{at_the_end, too_few, just_these, struck_stays}
use Rattle.voter.proofs.InARow.{struck_exactly, all_valid_exactly}
use Rattle.voter.proofs.Laws.{all_is_valid}
use Rattle.voter.proofs.Splits.{two_are_valid, invalid_exactly}

-- ---- From all valid and count 0

module _ (v : Voter) (all : v.channels ≡ All) (none : v.count ≡ 0) (a b : Reading) where
  -- After any two samples none is struck.
  pub after_two_none_is_struck : (heard_all v (a ∷ b ∷ [])).channels ≡ All
  after_two_none_is_struck =
      (all_valid_exactly v all none (a ∷ b ∷ [])).1
      (λ k row. too_few a b row.three)

  -- After any three samples channel k is struck exactly if it was the odd one in all three.
  module _ (c : Reading) where
    still_valid : is_invalid (heard_all v (a ∷ b ∷ c ∷ [])) ≡ false
    unfolding heard_all valid_channels
    still_valid = by (is_invalid (heard_all v (a ∷ b ∷ c ∷ []))) refl
      where
        by : (is : Bool) → is_invalid (heard_all v (a ∷ b ∷ c ∷ [])) ≡ is → is ≡ false
        by true e =
            let row = (invalid_exactly v (all_is_valid v all) none (a ∷ b ∷ c ∷ [])).0 (subst⁻¹ T e tt) in
            let start = (just_these a b c row.three).0 in
            let two : T (has_two v) = subst (λ (rs : List Reading). T (has_two (heard_all v rs))) start row.two_valid in
            absurd (subst (λ (ch : Channels). T (eqb (valid_channels ch) 2)) all two)
        by false e = refl

    module _ (k : ℕ) (channel : 1 ≤ k) where
      pub struck_after_three_exactly : T (is_struck k (heard_all v (a ∷ b ∷ c ∷ []))) ↔ (T (is_odd k a) × T (is_odd k b) × T (is_odd k c))
      struck_after_three_exactly = (λ is. odds (exactly.0 is), λ odd. exactly.1 (row odd))
        where
          exactly : T (is_struck k (heard_all v (a ∷ b ∷ c ∷ []))) ↔ ThreeOdd k v (a ∷ b ∷ c ∷ [])
          exactly = struck_exactly v all none k channel (a ∷ b ∷ c ∷ []) still_valid

          odds : ThreeOdd k v (a ∷ b ∷ c ∷ []) → T (is_odd k a) × T (is_odd k b) × T (is_odd k c)
          odds row =
              let these = just_these a b c row.three in
              rw (← these.1, ← these.2, ← these.3) row.odd

          row : T (is_odd k a) × T (is_odd k b) × T (is_odd k c) → ThreeOdd k v (a ∷ b ∷ c ∷ [])
          row odd =
              record {
                channel = channel;
                three = at_the_end [] a b c;
                odd = odd;
                all_valid = after_two_none_is_struck;
              }

-- ---- From two valid and count 0

module _ (v : Voter) (left : T (has_two v)) (none : v.count ≡ 0) (a b : Reading) where
  -- After any two samples both are valid.
  pub after_two_both_are_valid : (heard_all v (a ∷ b ∷ [])).channels ≡ v.channels
  unfolding valid_channels
  after_two_both_are_valid =
      struck_stays v.channels (λ all. subst (λ (ch : Channels). T (eqb (valid_channels ch) 2)) all left) v refl (a ∷ b ∷ [])
      (by (is_invalid (heard_all v (a ∷ b ∷ []))) refl)
    where
      by : (is : Bool) → is_invalid (heard_all v (a ∷ b ∷ [])) ≡ is → is ≡ false
      by true e =
          let row = (invalid_exactly v (two_are_valid v left) none (a ∷ b ∷ [])).0 (subst⁻¹ T e tt) in
          absurd (too_few a b row.three)
      by false e = refl

  -- After any three the sensor is invalid exactly if they differed in all three.
  pub invalid_after_three_exactly :
      (c : Reading) →
      T (is_invalid (heard_all v (a ∷ b ∷ c ∷ []))) ↔
      (T (differ v.channels a) × T (differ v.channels b) × T (differ v.channels c))
  unfolding heard_all
  invalid_after_three_exactly c = (λ invalid. differing (exactly.0 invalid), λ differ. exactly.1 (row differ))
    where
      exactly : T (is_invalid (heard_all v (a ∷ b ∷ c ∷ []))) ↔ ThreeDiffer v (a ∷ b ∷ c ∷ [])
      exactly = invalid_exactly v (two_are_valid v left) none (a ∷ b ∷ c ∷ [])

      differing : ThreeDiffer v (a ∷ b ∷ c ∷ []) → T (differ v.channels a) × T (differ v.channels b) × T (differ v.channels c)
      differing row =
          let these = just_these a b c row.three in
          rw (← these.1, ← these.2, ← these.3)
          (subst (λ (rs : List Reading). (let two = (heard_all v rs).channels in T (differ two row.three.first) × T (differ two row.three.second) × T (differ two row.three.third))) these.0 row.differing)

      row : T (differ v.channels a) × T (differ v.channels b) × T (differ v.channels c) → ThreeDiffer v (a ∷ b ∷ c ∷ [])
      row differing =
          record {
            three = at_the_end [] a b c;
            two_valid = left;
            differing = differing;
          }
