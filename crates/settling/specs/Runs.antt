-- A run of samples through the controller's own step, with the voted handle held still, and with the handle up the three voted absorbers
-- too (request K7). A run is a list of any length: what holds at the end of every run holds at every sample of each.
-- Assumes nothing.
use Rattle.std.specs.Prelude.{Bool, true, ◌&&◌, ◌||◌, List, [], ◌∷◌, ℕ, ◌+◌, T, eqb}
use Rattle.std.specs.Bool.{beq}
use Rattle.controller.specs.declared.State.{State}
use Rattle.controller.specs.Votes.{handle, gear_shock_absorber, sensor}
use Rattle.controller.specs.Stages.{elapsed_of}
use Rattle.controller.specs.Steps.{step_of}
use Rattle.controller.specs.Samples.{Row}
pub use Rattle.laws.specs.Times.{next}

-- The sample is accepted.
unfoldable pub is_taken : State → Row → Bool
is_taken s r = eqb (step_of s r.0 r.1).refusal 0

-- The voted handle says this (true for down).
unfoldable pub handle_says : Bool → State → Bool
handle_says down s = beq (sensor handle s.voters) down

-- What absorbers say (true for ground): front, left, right.
abbrev pub Absorbers : Type 0
Absorbers = Bool × Bool × Bool

-- The three voted absorbers say this.
unfoldable pub absorbers_say : Absorbers → State → Bool
absorbers_say these s =
    beq (sensor gear_shock_absorber s.voters) these.0 &&
    beq (sensor (gear_shock_absorber + 1) s.voters) these.1 &&
    beq (sensor (gear_shock_absorber + 2) s.voters) these.2

-- The voted handle says this. Request K7: "Demand 3 for handle up now also asks that the three voted absorbers don't change during the
-- run"; with the handle down nothing more is asked.
unfoldable pub held_as : Bool → Absorbers → State → Bool
held_as down these s = handle_says down s && (down || absorbers_say these s)

-- So it is after each sample of a run, and each is accepted. What was before the first does not matter.
unfoldable pub held : Bool → Absorbers → State → List Row → Bool
held down these s [] = true
held down these s (r ∷ rs) = is_taken s r && held_as down these (next s r) && held down these (next s r) rs

abbrev pub Held : Bool → Absorbers → State → List Row → Type 0
Held down these s rs = T (held down these s rs)

-- The elapsed times of a run's samples, added up.
unfoldable pub elapsed_in : State → List Row → ℕ
elapsed_in s [] = 0
elapsed_in s (r ∷ rs) = elapsed_of s.stamp r.0 + elapsed_in (next s r) rs

-- The same since its first sample, which counts as 0 ms.
unfoldable pub elapsed_since : State → List Row → ℕ
elapsed_since s [] = 0
elapsed_since s (first ∷ rest) = elapsed_in (next s first) rest
