-- Demand 3 over the core alone: it is told what has elapsed, whether the voted handle changed and what is seen, which may be
-- anything; the aim is the one in force (request K7). No limit is written here, so that the bound is shown for every limit at once. At
-- the end the same by how soon doors and gears are seen, for a rig that says how soon that is (request K8).
-- Assumes nothing.
use Rattle.std.specs.Prelude.{Bool, not, List, [], ◌∷◌, ℕ, ◌+◌, ◌*◌, ◌≤◌, ◌<◌, T}
use Rattle.sequence.specs.declared.Aim.{Aim}
use Rattle.sequence.specs.declared.Aim.TheVariants.{ToRetracted, ToExtended}
use Rattle.sequence.specs.declared.Seen.{Seen}
use Rattle.sequence.specs.Places.{moving_have_open}
use Rattle.orders.specs.declared.Order.{Order}
use Rattle.orders.specs.declared.Orders.{Orders}
use Rattle.orders.specs.Timing.{oldest, grown_age}
use Rattle.monitors.specs.declared.Sight.{Sight}
use Rattle.controller.specs.declared.Core.{Core}
use Rattle.controller.specs.Votes.{seen_of}
use Rattle.controller.specs.Stages.{core_step}
use Rattle.settling.specs.Settled.{settled}

-- What an accepted step tells the core, beside the aim.
pub record Told : Type 0 where
  pub elapsed : ℕ
  pub turned : Bool
  pub see : Sight

-- The core after one such step.
unfoldable pub core_next : Aim → Core → Told → Core
core_next aim c t = core_step t.elapsed t.turned aim t.see c

-- The core after a run of them with one aim.
unfoldable pub core_after : Aim → Core → List Told → Core
core_after aim c [] = c
core_after aim c (t ∷ ts) = core_after aim (core_next aim c t) ts

-- Each elapsed time is at most the limit.
unfoldable pub Within : ℕ → List Told → Type 0
Within limit [] = Unit {0}
Within limit (t ∷ ts) = (t.elapsed ≤ limit) × Within limit ts

-- The elapsed times, added up.
unfoldable pub elapsed_told : List Told → ℕ
elapsed_told [] = 0
elapsed_told (t ∷ ts) = t.elapsed + elapsed_told ts

-- From any place where moving gears have doors OPEN, as in every reached state, over every run of one step or more with one aim, and
-- elapsed times within the limit after the first: what is said by what has elapsed after the first, and whether it is settled at that aim.
abbrev pub OfEveryCoreRun : ℕ → (ℕ → Bool → Type 0) → Type 0
OfEveryCoreRun limit Says =
    (aim : Aim) (c : Core) →
    T (moving_have_open c.place) →
    (first : Told) (rest : List Told) →
    Within limit rest →
    Says (elapsed_told rest) (settled aim (core_after aim c (first ∷ rest)))

-- ---- By how soon doors and gears are seen

-- How soon all doors, and all gears, are seen where an order takes them: once its age is so many ms.
pub record Spans : Type 0 where
  pub doors : ℕ
  pub gears : ℕ

-- As soon as document 01's monitors ask it, of doors (causes 2 and 4) and of gears (6 and 8).
abbrev pub monitored : Spans
monitored = record { doors = 7000; gears = 10000 }

-- A span is no less than the 200 ms that an order waits for general_EV, so that in it the next one's waits end, and no more than an age
-- counts.
pub record IsSpan (ms : ℕ) : Type 0 where
  pub low : 200 ≤ ms
  pub high : ms ≤ oldest

pub record AreSpans (spans : Spans) : Type 0 where
  pub doors : IsSpan spans.doors
  pub gears : IsSpan spans.gears

-- In ms, where elapsed is at most this limit: 196 ms, twice the span of doors, once that of gears, and six times the limit.
unfoldable pub bound_by : Spans → ℕ → ℕ
bound_by spans limit = 196 + 2 * spans.doors + spans.gears + 6 * limit

-- The order that takes gears to the aim, and all three gears seen there.
abbrev pub towards_aim : Aim → Orders → Order
towards_aim ToRetracted os = os.retracts
towards_aim ToExtended os = os.extends

abbrev pub seen_at_aim : Aim → Seen → Bool
seen_at_aim ToRetracted seen = seen.retracted
seen_at_aim ToExtended seen = seen.extended

-- An order that is on, with what it is for not seen at this step, has a grown age under so many ms.
abbrev pub OnUnder : ℕ → ℕ → Order → Bool → Type 0
OnUnder ms elapsed o is_seen = T (not is_seen) → T o.on → grown_age elapsed o.age < ms

-- A step is in time by these spans: open_EV, which is for all doors seen open; close_EV, for all seen closed; and the order that takes
-- gears to the aim, for all seen there.
pub record InTime (spans : Spans) (aim : Aim) (c : Core) (t : Told) : Type 0 where
  pub opens : OnUnder spans.doors t.elapsed c.orders.opens (seen_of t.see).opened
  pub closes : OnUnder spans.doors t.elapsed c.orders.closes (seen_of t.see).closed
  pub gears : OnUnder spans.gears t.elapsed (towards_aim aim c.orders) (seen_at_aim aim (seen_of t.see))

-- Each step of a run with one aim is.
unfoldable pub AllInTime : Spans → Aim → Core → List Told → Type 0
AllInTime spans aim c [] = Unit {0}
AllInTime spans aim c (t ∷ ts) = InTime spans aim c t × AllInTime spans aim (core_next aim c t) ts

-- As `OfEveryCoreRun`, of those runs in which each step after the first is in time.
abbrev pub OfEveryCoreRunInTime : Spans → ℕ → (ℕ → Bool → Type 0) → Type 0
OfEveryCoreRunInTime spans limit Says =
    (aim : Aim) (c : Core) →
    T (moving_have_open c.place) →
    (first : Told) (rest : List Told) →
    Within limit rest →
    AllInTime spans aim (core_next aim c first) rest →
    Says (elapsed_told rest) (settled aim (core_after aim c (first ∷ rest)))
