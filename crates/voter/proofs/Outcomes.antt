-- What a vote comes to, line by line of the rule (document 01, "Voting"; request K5). The laws look at these and do not open the rule.
-- Assumes nothing.
use Prim.Native.Nat.{ℕ, ◌≤◌, ◌<◌}
use native.Mathlib.Omega.{arith}
use mathlib.Core.Bool.{Bool, true, false, cond, not, beq}
use mathlib.Core.Path.{◌≡◌, refl}
use lib.Dec.{eqb, leb}
use borrow.Author.Tests.{eqb-true, eqb-false, leb-true, leb-false}
use Rattle.voter.specs.Voting.{sensor, uncounted, third, odd_in_a_row, by_odd, differ_in_a_row, of_two}
use Rattle.voter.specs.Numbers.{channels_at}
use Rattle.voter.specs.declared.Channels.TheVariants.{All, Nothing}
use Rattle.voter.specs.declared.Voter.{Voter}

-- ---- Three valid channels, by the odd one and the majority's value

-- All agree; a channel is suspected, and so many in a row are not too many; or it is struck.
pub data OfThree (v : Voter) (odd : ℕ) (value : Bool) : Voter → Type 0 where
  agreed : odd ≡ 0 → OfThree v odd value (uncounted All value)
  suspected : 1 ≤ odd → odd_in_a_row v odd < third → OfThree v odd value (sensor All value odd (odd_in_a_row v odd))
  struck : 1 ≤ odd → third ≤ odd_in_a_row v odd → OfThree v odd value (uncounted (channels_at odd) value)

pub of_three_lem : (v : Voter) (odd : ℕ) (value : Bool) → OfThree v odd value (by_odd v odd value)
unfolding by_odd
of_three_lem v odd value = by (eqb odd 0) (leb third (odd_in_a_row v odd)) refl refl
  where
    by :
        (agree over : Bool) →
        eqb odd 0 ≡ agree →
        leb third (odd_in_a_row v odd) ≡ over →
        OfThree v odd value
        (cond agree (uncounted All value) (cond over (uncounted (channels_at odd) value) (sensor All value odd (odd_in_a_row v odd))))
    by true over a o = agreed (eqb-true odd 0 a)
    by false true a o = struck (omega (arith, eqb-false odd 0 a)) (leb-true third (odd_in_a_row v odd) o)
    by false false a o = suspected (omega (arith, eqb-false odd 0 a)) (leb-false third (odd_in_a_row v odd) o)

-- ---- Two valid channels, by whether they differ

-- They agree; they differ, and so many in a row are not too many; or the sensor is invalid.
pub data OfTwo (v : Voter) (apart : Bool) : Voter → Type 0 where
  together : (value : Bool) → apart ≡ false → OfTwo v apart (uncounted v.channels value)
  doubted : apart ≡ true → differ_in_a_row v < third → OfTwo v apart (sensor v.channels v.held 0 (differ_in_a_row v))
  lost : apart ≡ true → third ≤ differ_in_a_row v → OfTwo v apart (uncounted Nothing v.held)

pub of_two_lem : (v : Voter) (a b : Bool) → OfTwo v (not (beq a b)) (of_two v a b)
unfolding of_two
of_two_lem v a b = by (beq a b) (leb third (differ_in_a_row v)) refl
  where
    by :
        (agree over : Bool) →
        leb third (differ_in_a_row v) ≡ over →
        OfTwo v (not agree)
        (cond agree (uncounted v.channels a)
        (cond over (uncounted Nothing v.held) (sensor v.channels v.held 0 (differ_in_a_row v))))
    by true over o = together a refl
    by false true o = lost refl (leb-true third (differ_in_a_row v) o)
    by false false o = doubted refl (leb-false third (differ_in_a_row v) o)
