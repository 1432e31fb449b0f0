-- Demand 3 over any list of samples, refused ones among them. A refused sample leaves the state as it was and its stamp unused, so time is
-- accepted time: what has elapsed at the accepted samples.
-- Assumes nothing.
use Rattle.std.specs.Prelude.{Bool, cond, List, [], ◌∷◌, ℕ}
use Rattle.controller.specs.declared.State.{State}
use Rattle.controller.specs.Samples.{Row, after}
use Rattle.laws.specs.Reached.{Reached}
use Rattle.settling.specs.Runs.{next, is_taken, Absorbers, Held, elapsed_since}
use Rattle.settling.specs.Settled.{is_settled}

-- The accepted ones of a list of samples, each by the state that it meets.
unfoldable pub taken_of : State → List Row → List Row
taken_of s [] = []
taken_of s (r ∷ rs) = cond (is_taken s r) (r ∷ taken_of (next s r) rs) (taken_of (next s r) rs)

-- From any reached state, over every list of samples in which the voted handle stays as it is at the first accepted one, and with the
-- handle up the absorbers: what is said by what has elapsed since that one at the accepted ones, and whether it is settled after the last
-- sample.
abbrev pub OfEverySequence : (ℕ → Bool → Type 0) → Type 0
OfEverySequence Says =
    (s : State) →
    Reached s →
    (down : Bool) (these : Absorbers) (rows : List Row) →
    Held down these s (taken_of s rows) →
    Says (elapsed_since s (taken_of s rows)) (is_settled down (after s rows))
