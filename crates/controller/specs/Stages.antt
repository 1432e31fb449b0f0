-- Document 01, "One accepted step, in this order": each stage over the core, and over the whole state.
-- Assumes nothing.
use Rattle.std.specs.Prelude.{ℕ, ◌+◌, ◌-◌, ◌%◌, ◌^◌, Bool, cond, not, List, ◌==◌}
use Rattle.std.specs.Bool.{beq}
use Rattle.voter.specs.declared.Voter.{Voter}
use Rattle.sequence.specs.declared.Aim.{Aim}
use Rattle.sequence.specs.declared.Seen.{Seen}
use Rattle.sequence.specs.Moves.{aim_in_force, move_of}
use Rattle.orders.specs.Timing.{grown_age, all_grown, orders_of}
use Rattle.monitors.specs.declared.Sight.{Sight}
use Rattle.monitors.specs.Causes.{cause_of}
use Rattle.controller.specs.declared.Core.{Core}
use Rattle.controller.specs.declared.State.{State}
use Rattle.controller.specs.Votes.{handle, sensor, all_voted, sight_of, seen_of, aimed, on_ground}

-- There is an anomaly, old or new.
unfoldable pub anomaly : Core → Bool
anomaly c = not (c.cause == 0)

-- ---- Over the core

-- Ages. Each of the five orders has an age, and so has the voted handle. All grow by elapsed and stop at 60,000.
unfoldable pub core_ages : ℕ → Core → Core
core_ages elapsed c =
    record { orders = all_grown elapsed c.orders; since = grown_age elapsed c.since; place = c.place; cause = c.cause }

-- If the voted handle changed, its age becomes 0.
unfoldable pub core_handle : Bool → Core → Core
core_handle turned c = record { orders = c.orders; since = cond turned 0 c.since; place = c.place; cause = c.cause }

-- Monitors. The lowest number that holds is kept as the cause and the anomaly is latched. Later steps keep both.
unfoldable pub core_monitors : Sight → Core → Core
core_monitors see c =
    record {
      orders = c.orders;
      since = c.since;
      place = c.place;
      cause = cond (anomaly c) c.cause (cause_of c.orders c.since see);
    }

-- Sequence. With an anomaly, old or new, nothing moves. Otherwise at most one move, by the aim in force.
unfoldable pub core_sequence : Aim → Seen → Core → Core
core_sequence aim seen c =
    record {
      orders = c.orders;
      since = c.since;
      place = cond (anomaly c) c.place (move_of aim c.place seen);
      cause = c.cause;
    }

-- Orders, by the new doors, gears and anomaly.
unfoldable pub core_orders : Core → Core
core_orders c =
    record { orders = orders_of c.place (anomaly c) c.orders; since = c.since; place = c.place; cause = c.cause }

-- One accepted step of the core: what has elapsed, whether the voted handle changed, the aim in force, and what is seen.
unfoldable pub core_step : ℕ → Bool → Aim → Sight → Core → Core
core_step elapsed turned aim see c =
    core_orders (core_sequence aim (seen_of see) (core_monitors see (core_handle turned (core_ages elapsed c))))

-- ---- Over the state

-- Elapsed is this stamp less the last accepted one, modulo 2^32.
unfoldable pub elapsed_of : ℕ → ℕ → ℕ
elapsed_of last stamp = (stamp + 2 ^ 32 - last) % 2 ^ 32

unfoldable pub ages_stage : ℕ → State → State
ages_stage stamp s = record { stamp = stamp; voters = s.voters; core = core_ages (elapsed_of s.stamp stamp) s.core }

-- The voted handle changed.
unfoldable pub turned : List Voter → List Voter → Bool
turned before after = not (beq (sensor handle before) (sensor handle after))

unfoldable pub vote_stage : List ℕ → State → State
vote_stage bytes s =
    record {
      stamp = s.stamp;
      voters = all_voted bytes s.voters;
      core = core_handle (turned s.voters (all_voted bytes s.voters)) s.core;
    }

unfoldable pub monitors_stage : State → State
monitors_stage s = record { stamp = s.stamp; voters = s.voters; core = core_monitors (sight_of s.voters) s.core }

-- Request K7: the aim in force, by the votes and by the gears as they stood before the step.
abbrev pub in_force : List Voter → Core → Aim
in_force vs c = aim_in_force (on_ground vs) (aimed vs) c.place.gears

unfoldable pub sequence_stage : State → State
sequence_stage s =
    record {
      stamp = s.stamp;
      voters = s.voters;
      core = core_sequence (in_force s.voters s.core) (seen_of (sight_of s.voters)) s.core;
    }

unfoldable pub orders_stage : State → State
orders_stage s = record { stamp = s.stamp; voters = s.voters; core = core_orders s.core }

-- One accepted step.
unfoldable pub accepted : State → ℕ → List ℕ → State
accepted s stamp bytes = orders_stage (sequence_stage (monitors_stage (vote_stage bytes (ages_stage stamp s))))
