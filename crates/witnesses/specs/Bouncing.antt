-- Request K7: why demand 3 asks, for the handle up, that the voted absorbers stay. In this run the handle is held up and an absorber bounces at
-- each sample, so that the doors turn round each time: for as long as the bound it is neither settled nor red.
-- Assumes nothing.
use Rattle.std.specs.Prelude.{Bool, true, false, not, ◌&&◌, List, [], ◌∷◌, ◌++◌, ℕ, zero, suc, ◌≤◌, T}
use Rattle.controller.specs.declared.State.{State}
use Rattle.controller.specs.Start.{fresh_of}
use Rattle.controller.specs.Samples.{flight, Row}
use Rattle.laws.specs.Bounds.{bound}
use Rattle.laws.specs.Evenly.{evenly}
use Rattle.laws.specs.Wheels.{up_with, right}
use Rattle.settling.specs.Runs.{next, is_taken, handle_says, elapsed_since}
use Rattle.settling.specs.Settled.{is_settled}

-- In flight and on the right wheel, so many times; the doors are seen neither closed nor open, the gears extended.
unfoldable pub hops : ℕ → ℕ → List (List ℕ)
hops switch zero = []
hops switch (suc n) = up_with switch flight 1 0 0 0 1 ∷ up_with switch right 1 0 0 0 1 ∷ hops switch n

-- The pressure comes with the third sample, the doors leave with the fourth, and the switch opens when the handle has been up for 20,000 ms: no
-- sensor lies.
unfoldable pub bouncing : List Row
bouncing =
    evenly 100 0
    (up_with 1 flight 1 0 1 0 0 ∷ up_with 1 right 1 0 1 0 0 ∷ up_with 1 flight 1 0 1 0 1 ∷ up_with 1 right 1 0 0 0 1 ∷
    (hops 1 98 ++ hops 0 25))

-- Each sample of a run is accepted, and after it the voted handle is up and nothing is settled.
unfoldable pub never_settles : State → List Row → Bool
never_settles s [] = true
never_settles s (r ∷ rs) = is_taken s r && handle_says false (next s r) && not (is_settled false (next s r)) && never_settles (next s r) rs

-- So it is with every sample of a run from a fresh start that is as long as the bound: but for the absorbers, which change, it is as demand 3 asks.
abbrev pub NeverSettlesInTheBound : List Row → Type 0
NeverSettlesInTheBound rows = T (never_settles (fresh_of 0) rows) × (bound ≤ elapsed_since (fresh_of 0) rows)
