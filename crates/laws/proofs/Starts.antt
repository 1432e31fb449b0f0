-- None of the four orders starts before its waits are over, and so none in the step that stops its opposite: over every sequence.
-- Assumes nothing.
use mathlib.Core.Bool.{not, ◌&&◌}
use mathlib.Core.List.{List}
use mathlib.Core.Path.{◌≡◌}
use Prim.Native.Nat.{ℕ, ◌+◌, ◌≤◌, min}
use native.Mathlib.Omega.{arith}
use lib.Dec.{T, leb, leb→le, T_not}
use mir.Facts.{and_yes}
use Rattle.orders.specs.declared.Order.{Order}
use Rattle.orders.specs.Timing.{oldest, grown_age, grown, all_grown, on_for, off_for, orders_of}
use Rattle.orders.proofs.Laws.{starts_after_its_waits}
use Rattle.controller.specs.declared.State.{State}
use Rattle.controller.specs.Stages.{elapsed_of, accepted}
use Rattle.controller.specs.Samples.{after}
use Rattle.laws.specs.Times.{next, accepted_at}
use Rattle.laws.specs.Ages.{Timer, is_on, age_of}
use Rattle.laws.specs.Ages.Timer.{of_general}
use Rattle.laws.specs.Starts.{Opposites, WasOn, WasOff, StartsAfterItsWaits, StartsInTime, NoneStartsAsItsOppositeStops}
use Rattle.laws.specs.Starts.Opposites.{close_open, open_close, retract_extend, extend_retract}
use Rattle.laws.specs.Laws.{Always}
use Rattle.laws.proofs.Stages.{stages, core_stages}
use Rattle.laws.proofs.Samples.{at_sample}
use Rattle.laws.proofs.Ages.{ages_are_times}

-- ---- One accepted step

-- What the waits say of the ages before they grow.
old_enough : (ms elapsed age : ℕ) → ms ≤ 200 → T (leb ms (grown_age elapsed age)) → ms ≤ age + elapsed
unfolding grown_age
old_enough ms elapsed age small h = omega (arith, leb→le ms (grown_age elapsed age) h)

waited :
    (elapsed : ℕ) (general opposite : Order) →
    T (on_for 200 (grown elapsed general) && off_for 100 (grown elapsed opposite)) →
    (T general.on × (200 ≤ general.age + elapsed)) × (T (not opposite.on) × (100 ≤ opposite.age + elapsed))
unfolding on_for off_for grown
waited elapsed general opposite h =
    let both = and_yes (on_for 200 (grown elapsed general)) (off_for 100 (grown elapsed opposite)) h in
    let on = and_yes general.on (leb 200 (grown_age elapsed general.age)) both.0 in
    let off = and_yes (not opposite.on) (leb 100 (grown_age elapsed opposite.age)) both.1 in (
      (on.0, old_enough 200 elapsed general.age (omega arith) on.1),
      (off.0, old_enough 100 elapsed opposite.age (omega arith) off.1),
    )

accepted_waits :
    (o opposite : Timer) →
    Opposites o opposite →
    (s : State) (stamp : ℕ) (bytes : List ℕ) →
    T (not (is_on o s)) →
    T (is_on o (accepted s stamp bytes)) →
    WasOn 200 of_general s (elapsed_of s.stamp stamp) × WasOff 100 opposite s (elapsed_of s.stamp stamp)
unfolding stages core_stages orders_of all_grown grown
accepted_waits o opposite close_open s stamp bytes off on =
    waited _ _ _ (starts_after_its_waits _ _ _ (grown (elapsed_of s.stamp stamp) s.core.orders.closes) off on).1
accepted_waits o opposite open_close s stamp bytes off on =
    waited _ _ _ (starts_after_its_waits _ _ _ (grown (elapsed_of s.stamp stamp) s.core.orders.opens) off on).1
accepted_waits o opposite retract_extend s stamp bytes off on =
    waited _ _ _ (starts_after_its_waits _ _ _ (grown (elapsed_of s.stamp stamp) s.core.orders.retracts) off on).1
accepted_waits o opposite extend_retract s stamp bytes off on =
    waited _ _ _ (starts_after_its_waits _ _ _ (grown (elapsed_of s.stamp stamp) s.core.orders.extends) off on).1

-- ---- Every sample

-- From every state, reached or not.
waits : (s : State) → StartsAfterItsWaits s
waits s o opposite opposites r starts =
    let parts = and_yes (not (is_on o s)) (is_on o (next s r)) starts in
    at_sample
    (λ (t : State) (added : ℕ). T (is_on o t) → WasOn 200 of_general s added × WasOff 100 opposite s added)
    s r
    (accepted_waits o opposite opposites s r.0 r.1 parts.0)
    (λ on. absurd (T_not (is_on o s) parts.0 on))
    parts.1

pub starts_only_after_its_waits : Always StartsAfterItsWaits
starts_only_after_its_waits s reached = waits s

pub none_starts_as_its_opposite_stops : Always NoneStartsAsItsOppositeStops
none_starts_as_its_opposite_stops s reached o opposite opposites r starts stops =
    T_not (is_on opposite s) (waits s o opposite opposites r starts).1.0
    (and_yes (is_on opposite s) (not (is_on opposite (next s r))) stops).0

-- ---- By accepted time

-- An age is at most the time since.
by_time : (ms age time added : ℕ) → age ≡ min time oldest → ms ≤ age + added → ms ≤ time + added
by_time ms age time added same long = omega arith

pub starts_in_time : Always StartsInTime
starts_in_time s reached o opposite opposites rows r starts =
    let waited = waits (after s rows) o opposite opposites r starts in (
      by_time 200 (age_of of_general (after s rows)) _ (accepted_at (after s rows) r) (ages_are_times s reached of_general rows) waited.0.1,
      by_time 100 (age_of opposite (after s rows)) _ (accepted_at (after s rows) r) (ages_are_times s reached opposite rows) waited.1.1,
    )
