-- 001 as printed: its outgoing sequence without the CLOSING case, and a run in which the rig then hangs. This is why document 01
-- adds the case.
-- Assumes nothing.
use Rattle.std.specs.Prelude.{Bool, true, cond, not, ◌&&◌, List, [], ◌∷◌, ◌++◌, ℕ, ◌<◌, ◌-◌, T, eqb, replicate}
use Rattle.sequence.specs.declared.Doors.{Doors}
use Rattle.sequence.specs.declared.Doors.TheVariants.{Closed, Opening, Open, Closing}
use Rattle.sequence.specs.declared.Gears.{Gears}
use Rattle.sequence.specs.declared.Aim.{Aim}
use Rattle.sequence.specs.declared.Aim.TheVariants.{ToRetracted, ToExtended}
use Rattle.sequence.specs.declared.Place.{Place}
use Rattle.sequence.specs.declared.Seen.{Seen}
use Rattle.sequence.specs.Moves.{place, at_aim, next_gears, doors_home, move_of}
use Rattle.orders.specs.Timing.{is_closing}
use Rattle.controller.specs.declared.Core.{Core}
use Rattle.controller.specs.declared.State.{State}
use Rattle.controller.specs.Votes.{handle, sensor, sight_of, seen_of}
use Rattle.controller.specs.Start.{fresh_of}
use Rattle.controller.specs.Stages.{anomaly, ages_stage, vote_stage, monitors_stage, in_force, orders_stage}
use Rattle.controller.specs.Steps.{refusal_of}
use Rattle.controller.specs.Shows.{doors_of, gears_of, red}
use Rattle.controller.specs.Samples.{sees, Row, after}
use Rattle.laws.specs.Bounds.{bound}
use Rattle.laws.specs.Evenly.{evenly}
use Rattle.laws.specs.Lesson.{retraction}

-- Rule r_outgoingSequence with its sensors, gears not EXTENDED.
abbrev pub printed_outgoing : Doors → Gears → Seen → Place
printed_outgoing Closed gears seen = place Opening gears
printed_outgoing Opening gears seen = place (cond seen.opened Open Opening) gears
printed_outgoing Open gears seen = place Open (next_gears ToExtended gears seen)
-- no case is printed: nothing moves
printed_outgoing Closing gears seen = place Closing gears

-- One move as printed; the retraction sequence is document 01's.
unfoldable pub printed_move_of : Aim → Place → Seen → Place
printed_move_of ToRetracted p seen = move_of ToRetracted p seen
printed_move_of ToExtended p seen = cond (at_aim ToExtended p.gears) (doors_home p seen) (printed_outgoing p.doors p.gears seen)

-- ---- A step with that move; all else is document 01's with the requests, the aim in force (request K7) too

-- The sequence's stage over the core, and over the state.
unfoldable pub printed_sequence : Aim → Seen → Core → Core
printed_sequence aim seen c =
    record {
      orders = c.orders;
      since = c.since;
      place = cond (anomaly c) c.place (printed_move_of aim c.place seen);
      cause = c.cause;
    }

unfoldable pub printed_stage : State → State
printed_stage s =
    record {
      stamp = s.stamp;
      voters = s.voters;
      core = printed_sequence (in_force s.voters s.core) (seen_of (sight_of s.voters)) s.core;
    }

-- An accepted step, and a step.
unfoldable pub printed_accepted : State → ℕ → List ℕ → State
printed_accepted s stamp bytes = orders_stage (printed_stage (monitors_stage (vote_stage bytes (ages_stage stamp s))))

unfoldable pub printed_step : State → ℕ → List ℕ → State
printed_step s stamp bytes = cond (eqb (refusal_of s stamp bytes) 0) (printed_accepted s stamp bytes) s

-- The states of a run, one after each sample.
unfoldable pub printed_states : State → List Row → List State
printed_states s [] = []
printed_states s (r ∷ rs) = printed_step s r.0 r.1 ∷ printed_states (printed_step s r.0 r.1) rs

-- ---- The run

-- From a fresh start, until gears are RETRACTED and the doors CLOSING.
unfoldable pub closing_retracted : State
closing_retracted = after (fresh_of 0) (evenly 100 0 retraction)

-- Then the handle goes down. The doors close, the pressure stays, the switch opens after 20,000 ms: no sensor lies.
unfoldable pub handle_down : List Row
handle_down =
    evenly 100 900
    (sees 1 1 0 1 0 0 1 ∷
    replicate 199 (sees 1 1 0 1 1 0 1) ++
    replicate 49 (sees 1 0 0 1 1 0 1))

-- From the first sample to the last, in ms.
abbrev last_of : ℕ → List Row → ℕ
last_of stamp [] = stamp
last_of stamp (r ∷ rs) = last_of r.0 rs

unfoldable pub span_of : List Row → ℕ
span_of [] = 0
span_of (r ∷ rs) = last_of r.0 rs - r.0

-- The handle voted down, doors CLOSING, gears not EXTENDED, no red: neither settled nor an anomaly.
unfoldable pub hangs : State → Bool
hangs s = sensor handle s.voters && is_closing (doors_of s) && not (at_aim ToExtended (gears_of s)) && not (red s)

-- A test holds of every state.
unfoldable pub throughout : (State → Bool) → List State → Bool
throughout test [] = true
throughout test (s ∷ more) = test s && throughout test more

-- A run from a state hangs as printed: after every one of its samples, and for longer than the bound.
abbrev pub HangsPastTheBound : State → List Row → Type 0
HangsPastTheBound s rows = T (throughout hangs (printed_states s rows)) × (bound < span_of rows)
