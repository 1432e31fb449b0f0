-- Document 01, "Ages": "Each of the five orders has an age (ms since it last went on or off), and so has the voted handle." What that
-- says over a list of samples: the accepted time since each of the six last changed. Of one that does not change at any of them it is all
-- their accepted time, on top of the age that it had before them; from a fresh start that is 60,000, so there is no age in it.
-- Assumes nothing.
use Rattle.std.specs.Prelude.{Bool, cond, not, List, [], ◌∷◌, ◌≡◌, ℕ, ◌+◌, min}
use Rattle.std.specs.Bool.{beq}
use Rattle.std.proofs.Math.Option.{Option, none, some, or_else, get_or}
use Rattle.orders.specs.Timing.{oldest}
use Rattle.controller.specs.declared.State.{State}
use Rattle.controller.specs.Votes.{handle, sensor}
use Rattle.controller.specs.Shows.{general_ev, close_ev, open_ev, retract_ev, extend_ev}
use Rattle.controller.specs.Samples.{Row, after}
use Rattle.laws.specs.Times.{next, accepted_in}

-- ---- Since it last changed

-- At this sample it changes: an order goes on or off, the voted handle goes down or up.
unfoldable pub changes_at : (State → Bool) → State → Row → Bool
changes_at says s r = not (beq (says s) (says (next s r)))

-- The accepted time of the samples behind the last one at which it changes; none where it does not change.
unfoldable pub since_change : (State → Bool) → State → List Row → Option ℕ
since_change says s [] = none
since_change says s (r ∷ rs) =
    or_else (since_change says (next s r) rs)
    (cond (changes_at says s r) (some (accepted_in (next s r) rs)) none)

-- The accepted time since it last changed, where it was so long when the samples began.
unfoldable pub time_since : (State → Bool) → ℕ → State → List Row → ℕ
time_since says before s rows = get_or (since_change says s rows) (before + accepted_in s rows)

-- ---- The six ages

-- What has an age: the five orders, and the voted handle.
pub data Timer : Type 0 where
  of_general of_close of_open of_retract of_extend of_handle : Timer

-- On; of the handle, down.
abbrev pub is_on : Timer → State → Bool
is_on of_general s = general_ev s
is_on of_close s = close_ev s
is_on of_open s = open_ev s
is_on of_retract s = retract_ev s
is_on of_extend s = extend_ev s
is_on of_handle s = sensor handle s.voters

abbrev pub age_of : Timer → State → ℕ
age_of of_general s = s.core.orders.general.age
age_of of_close s = s.core.orders.closes.age
age_of of_open s = s.core.orders.opens.age
age_of of_retract s = s.core.orders.retracts.age
age_of of_extend s = s.core.orders.extends.age
age_of of_handle s = s.core.since

-- After any samples an age is the accepted time since its order, or the handle, last changed, to 60,000. It goes on from the age
-- that it has before them: 60,000 from a fresh start, at which nothing has changed yet.
abbrev pub AgesAreTimes : State → Type 0
AgesAreTimes s =
    (timer : Timer) (rows : List Row) → age_of timer (after s rows) ≡ min (time_since (is_on timer) (age_of timer s) s rows) oldest
