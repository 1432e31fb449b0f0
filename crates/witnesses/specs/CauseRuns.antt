-- Document 01, "Monitors": for each of the thirteen causes a run of samples at whose last one it is found, and nothing before. A run
-- goes from a fresh start at stamp 0, with a sample each 100 ms.
-- Assumes nothing.
use Rattle.std.specs.Prelude.{List, [], ◌∷◌, ◌++◌, ◌≡◌, ℕ, suc, replicate, take}
use Rattle.controller.specs.declared.State.{State}
use Rattle.controller.specs.Start.{fresh_of}
use Rattle.controller.specs.Samples.{sees, Row}
use Rattle.laws.specs.Times.{next}
use Rattle.laws.specs.Evenly.{evenly}
use Rattle.laws.specs.Lesson.{retraction, extension, broken_switch}

-- Some samples, and then another so many times.
abbrev pub then_for : List (List ℕ) → ℕ → List ℕ → List Row
then_for first times bytes = evenly 100 0 (first ++ replicate times bytes)

-- The runs, in the order of the causes. An order that starts at a sample has an age of 7,000 ms after 70 more, of 10,000 after 100.
unfoldable pub cause_runs : List (List Row)
cause_runs =
    -- 1, 2: open_EV starts at sample 3; doors seen closed, and doors seen nowhere
    then_for (take 3 retraction) 70 (sees 0 1 1 0 1 0 1) ∷
    then_for (take 3 retraction) 70 (sees 0 1 1 0 0 0 1) ∷
    -- 3, 4: close_EV starts at sample 9; doors seen open, and doors seen nowhere
    then_for retraction 70 (sees 0 1 0 1 0 1 1) ∷
    then_for retraction 70 (sees 0 1 0 1 0 0 1) ∷
    -- 5, 6: retract_EV starts at sample 6; gears seen extended, and gears seen nowhere
    then_for (take 6 retraction) 70 (sees 0 1 1 0 0 1 1) ∷
    then_for (take 6 retraction) 100 (sees 0 1 0 0 0 1 1) ∷
    -- 7, 8: extend_EV starts at sample 15; gears seen retracted, and gears seen nowhere
    then_for (retraction ++ take 6 extension) 70 (sees 1 1 0 1 0 1 1) ∷
    then_for (retraction ++ take 6 extension) 100 (sees 1 1 0 0 0 1 1) ∷
    -- 9: general_EV starts at sample 1; no pressure
    then_for (take 1 retraction) 20 (sees 0 1 1 0 1 0 0) ∷
    -- 10: general_EV has been off from the start; pressure
    then_for [] 1 (sees 1 0 1 0 1 0 1) ∷
    -- 11: the handle goes up at sample 1; the switch stays open
    then_for [] 11 (sees 0 0 1 0 1 0 0) ∷
    -- 12: the handle has been down from the start; the switch is closed
    then_for [] 1 (sees 1 1 1 0 1 0 0) ∷
    -- 13: the switch becomes invalid
    broken_switch ∷
    []

-- The cause before the last sample of a run, and after it.
unfoldable pub last_causes : State → List Row → List ℕ
last_causes s [] = []
last_causes s (r ∷ []) = s.core.cause ∷ (next s r).core.cause ∷ []
last_causes s (r ∷ q ∷ rs) = last_causes (next s r) (q ∷ rs)

-- A run for each number from this one on: there is no cause before its last sample, and the one of this number after it.
abbrev pub FoundInTurn : ℕ → List (List Row) → Type 0
FoundInTurn n [] = Unit {0}
FoundInTurn n (run ∷ more) = (last_causes (fresh_of 0) run ≡ 0 ∷ n ∷ []) × FoundInTurn (suc n) more
