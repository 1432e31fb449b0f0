-- Document 01, "Monitors": "the anomaly is latched. Later steps keep both." "Sequence": "With an anomaly, old or new, nothing moves."
-- "Orders": none of the four is wanted with an anomaly. What these say over every further sequence of samples, refused ones among
-- them.
-- Assumes nothing.
use Rattle.std.specs.Prelude.{not, ◌&&◌, List, ◌≡◌, ℕ, ◌≤◌, T}
use Rattle.orders.specs.Timing.{all_grown, off_together}
use Rattle.controller.specs.declared.State.{State}
use Rattle.controller.specs.Steps.{step_of}
use Rattle.controller.specs.Shows.{general_ev, close_ev, open_ev, retract_ev, extend_ev, red}
use Rattle.controller.specs.Samples.{Row, after}
use Rattle.laws.specs.Times.{next, accepted_at, accepted_in}

-- The four orders are off.
abbrev pub FourOff : State → Type 0
FourOff s = T (not (close_ev s)) × T (not (open_ev s)) × T (not (retract_ev s)) × T (not (extend_ev s))

-- A later state as a red one leaves it: red with the same cause, nothing has moved, the four orders are off, and general_EV has
-- not started.
pub record Latched (s later : State) : Type 0 where
  pub is_red : T (red later)
  pub same_cause : later.core.cause ≡ s.core.cause
  pub nothing_moves : later.core.place ≡ s.core.place
  pub four_off : FourOff later
  pub general_stays : T (general_ev later) → T (general_ev s)

-- Once red, so after any samples.
abbrev pub OnceRed : State → Type 0
OnceRed s = T (red s) → (rows : List Row) → Latched s (after s rows)

-- Once red, general_EV goes by its rule: at an accepted sample it stops exactly if all four others were off before it with age
-- 1,000 or more.
abbrev pub GeneralByItsRule : State → Type 0
GeneralByItsRule s =
    T (red s) →
    (r : Row) →
    (step_of s r.0 r.1).refusal ≡ 0 →
    general_ev (next s r) ≡ (general_ev s && not (off_together (all_grown (accepted_at s r) s.core.orders)))

-- So it is off once so many ms have been accepted.
abbrev pub GeneralOffIn : ℕ → State → Type 0
GeneralOffIn ms s = T (red s) → (rows : List Row) → ms ≤ accepted_in s rows → T (not (general_ev (after s rows)))
