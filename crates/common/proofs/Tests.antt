-- Tests: cases on one, two that say the same, one of two, and one that is asked of another, used and made.
-- Assumes nothing.
use mathlib.Core.Bool.{Bool, true, false, not, ◌||◌, beq}
use mathlib.Core.Path.{◌≡◌, refl}
use lib.Dec.{T}
use Rattle.common.specs.Tests.{implies}

-- By cases on a test, with the fact in hand.
pub by_cases : (test : Bool) (P : Bool → Type 0) → (T test → P true) → (T (not test) → P false) → P test
by_cases true P holds fails = holds tt
by_cases false P holds fails = fails tt

-- Two that are compared say the same.
pub same : (a b : Bool) → T (beq a b) → a ≡ b
same true true h = refl
same true false h = absurd h
same false true h = absurd h
same false false h = refl

-- One of two holds: in one way, and in the other.
pub one_way : (a b : Bool) → T a → T (a || b)
one_way true b h = tt
one_way false b h = absurd h

pub other_way : (a b : Bool) → T b → T (a || b)
other_way true b h = tt
other_way false b h = h

-- An implication that is a test, used and made.
pub then : (this that : Bool) → T (implies this that) → T this → T that
then true that h this = h
then false that h this = absurd this

pub so : (this that : Bool) → (T this → T that) → T (implies this that)
so true that h = h tt
so false that h = tt
