-- Every age is the accepted time since its order, or the handle, last changed, to 60,000: over every sequence of samples, refused
-- ones among them.
-- Assumes nothing.
use mathlib.Core.Bool.{Bool, true, false, cond, not, beq}
use mathlib.Core.List.{List, [], ◌∷◌}
use mathlib.Core.Option.{Option, none, some, or_else, get_or}
use mathlib.Core.Path.{◌≡◌, refl, ◌∙◌}
use Prim.Native.Nat.{ℕ, ◌+◌, ◌≤◌, zero-le, min}
use native.Mathlib.Omega.{arith}
use Rattle.orders.specs.Timing.{oldest, order, grown_age, grown, all_grown, switched, directed, general_of, orders_of}
use Rattle.controller.specs.declared.State.{State}
use Rattle.controller.specs.Start.{off_long, fresh_orders, fresh_core, fresh_of}
use Rattle.controller.specs.Stages.{elapsed_of, turned, accepted}
use Rattle.controller.specs.Samples.{Row, after}
use Rattle.image.specs.Conditions.{AgesTo60000}
use Rattle.laws.specs.Reached.Reached.{fresh}
use Rattle.laws.specs.Times.{next, accepted_at, accepted_in}
use Rattle.laws.specs.Ages.{changes_at, since_change, time_since, Timer, is_on, age_of, AgesAreTimes}
use Rattle.laws.specs.Ages.Timer.{of_general, of_close, of_open, of_retract, of_extend, of_handle}
use Rattle.laws.specs.Laws.{Always}
use Rattle.laws.proofs.Stages.{stages, core_stages}
use Rattle.laws.proofs.Samples.{at_sample}
use Rattle.laws.proofs.Safety.{ages_to_60000}

-- ---- One step

-- An age after a sample at which this much time is accepted: 0 where it changes.
abbrev pub grown_or : Bool → ℕ → ℕ → ℕ
grown_or changes age ms = cond changes 0 (min (age + ms) oldest)

-- An order whose age has grown, and which is then switched.
switched_age :
    (told on : Bool) (age elapsed : ℕ) →
    (switched told (grown elapsed (order on age))).age ≡
    grown_or (not (beq on (switched told (grown elapsed (order on age))).on)) age elapsed
unfolding switched grown grown_age
switched_age true true age elapsed = refl
switched_age true false age elapsed = refl
switched_age false true age elapsed = refl
switched_age false false age elapsed = refl

accepted_age :
    (timer : Timer) (s : State) (stamp : ℕ) (bytes : List ℕ) →
    age_of timer (accepted s stamp bytes) ≡
    grown_or (not (beq (is_on timer s) (is_on timer (accepted s stamp bytes)))) (age_of timer s) (elapsed_of s.stamp stamp)
unfolding stages core_stages orders_of all_grown directed general_of turned grown_age
accepted_age of_general s stamp bytes = switched_age _ s.core.orders.general.on s.core.orders.general.age _
accepted_age of_close s stamp bytes = switched_age _ s.core.orders.closes.on s.core.orders.closes.age _
accepted_age of_open s stamp bytes = switched_age _ s.core.orders.opens.on s.core.orders.opens.age _
accepted_age of_retract s stamp bytes = switched_age _ s.core.orders.retracts.on s.core.orders.retracts.age _
accepted_age of_extend s stamp bytes = switched_age _ s.core.orders.extends.on s.core.orders.extends.age _
accepted_age of_handle s stamp bytes = refl

-- Where nothing is accepted it is as it was.
same_age : (on : Bool) (age : ℕ) → age ≤ oldest → age ≡ grown_or (not (beq on on)) age 0
same_age true age h = omega arith
same_age false age h = omega arith

pub next_age :
    (timer : Timer) (s : State) (r : Row) →
    age_of timer s ≤ oldest →
    age_of timer (next s r) ≡ grown_or (changes_at (is_on timer) s r) (age_of timer s) (accepted_at s r)
unfolding changes_at
next_age timer s r h =
    at_sample
    (λ (t : State) (ms : ℕ). age_of timer t ≡ grown_or (not (beq (is_on timer s) (is_on timer t))) (age_of timer s) ms)
    s r
    (accepted_age timer s r.0 r.1)
    (same_age (is_on timer s) (age_of timer s) h)

-- ---- A list of samples

grown_to : (changes : Bool) (age ms : ℕ) → grown_or changes age ms ≤ oldest
grown_to true age ms = zero-le
grown_to false age ms = omega arith

-- What comes later counts; else the change at this sample; else all of the time.
goes_on :
    (later : Option ℕ) (changes : Bool) (age ms rest : ℕ) →
    min (get_or later (grown_or changes age ms + rest)) oldest ≡
    min (get_or (or_else later (cond changes (some rest) none)) (age + (ms + rest))) oldest
unfolding or_else
goes_on (some ms') changes age ms rest = refl
goes_on none true age ms rest = omega arith
goes_on none false age ms rest = omega arith

after_age :
    (timer : Timer) (s : State) (rows : List Row) →
    age_of timer s ≤ oldest →
    age_of timer (after s rows) ≡ min (time_since (is_on timer) (age_of timer s) s rows) oldest
unfolding after time_since since_change accepted_in
after_age timer s [] h = omega arith
after_age timer s (r ∷ rs) h =
    let now = next_age timer s r h in
    after_age timer (next s r) rs (rw now (grown_to (changes_at (is_on timer) s r) (age_of timer s) (accepted_at s r))) ∙
    rw now (goes_on (since_change (is_on timer) (next s r) rs) (changes_at (is_on timer) s r) (age_of timer s) (accepted_at s r) (accepted_in (next s r) rs))

pub at_most : (timer : Timer) (s : State) → AgesTo60000 s → age_of timer s ≤ oldest
at_most of_general s ages = ages.0
at_most of_close s ages = ages.1
at_most of_open s ages = ages.2
at_most of_retract s ages = ages.3
at_most of_extend s ages = ages.4
at_most of_handle s ages = ages.5

-- From every reached state, with the ages that it has: from a fresh start, from a taken image and from wherever a lesson goes on.
pub ages_are_times : Always AgesAreTimes
ages_are_times s reached timer rows = after_age timer s rows (at_most timer s (ages_to_60000 s reached))

-- Document 01: a fresh start gives "every age 60,000".
pub ages_from_a_fresh_start :
    (start : ℕ) (timer : Timer) (rows : List Row) →
    age_of timer (after (fresh_of start) rows) ≡ min (time_since (is_on timer) oldest (fresh_of start) rows) oldest
unfolding fresh_of fresh_core fresh_orders off_long
ages_from_a_fresh_start start of_general = ages_are_times (fresh_of start) (fresh start) of_general
ages_from_a_fresh_start start of_close = ages_are_times (fresh_of start) (fresh start) of_close
ages_from_a_fresh_start start of_open = ages_are_times (fresh_of start) (fresh start) of_open
ages_from_a_fresh_start start of_retract = ages_are_times (fresh_of start) (fresh start) of_retract
ages_from_a_fresh_start start of_extend = ages_are_times (fresh_of start) (fresh start) of_extend
ages_from_a_fresh_start start of_handle = ages_are_times (fresh_of start) (fresh start) of_handle
