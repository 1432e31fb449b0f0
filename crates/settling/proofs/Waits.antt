-- The time until one order has done its work, and that a step in time takes off it what has elapsed. An order starts once general_EV has
-- age 200 and its opposite age 100, and has done its work once its own age is a `span`.
-- Assumes nothing.
use mathlib.Core.Bool.{Bool, true, false, cond, not, ◌&&◌}
use mathlib.Core.Path.{◌≡◌}
use Prim.Native.Nat.{ℕ, ◌+◌, ◌-◌, ◌≤◌, ◌<◌, max}
use native.Mathlib.Omega.{arith}
use lib.Dec.{T, leb, nleb→lt}
use Rattle.orders.specs.declared.Order.{Order}
use Rattle.orders.specs.Timing.{oldest, order, grown_age, grown, on_for, off_for, switched, directed}
use Rattle.common.proofs.Tests.{by_cases}
use Rattle.settling.specs.CoreRuns.{IsSpan}

-- What an order that is off still waits for, by the ages of general_EV and of its opposite: it starts within this and one step.
abbrev pub lacking : ℕ → ℕ → ℕ
lacking general opposite = max (199 - general) (99 - opposite)

-- The last age at which an order need not have done its work.
abbrev pub last : ℕ → ℕ
last span = span - 1

-- The time until it has done its work. On, it has until that age and one step, but no less than what the next order lacks; off, it
-- starts first.
abbrev pub work : ℕ → ℕ → Order → ℕ → ℕ → ℕ
work limit span o lacks next = cond o.on (max (last span - o.age + limit) next) (lacks + limit + (last span + limit))

-- Over a step, what is lacking falls by what has elapsed, or to 0.
abbrev pub Falls : ℕ → ℕ → ℕ → Type 0
Falls elapsed before later = later + elapsed ≤ max before elapsed

-- ---- At most, and at least

pub lacking_most : (general opposite : ℕ) → lacking general opposite ≤ 199
lacking_most general opposite = omega arith

module _ (limit span : ℕ) (o : Order) (lacks next : ℕ) where
  pub work_most : IsSpan span → lacks ≤ 199 → next ≤ 199 → work limit span o lacks next ≤ 199 + limit + (last span + limit)
  work_most is_span h h' =
      by_cases o.on (λ (on : Bool). work limit span (order on o.age) lacks next ≤ 199 + limit + (last span + limit))
      (λ on. omega arith)
      (λ off. omega arith)

  pub work_least : limit ≤ work limit span o lacks next
  work_least =
      by_cases o.on (λ (on : Bool). limit ≤ work limit span (order on o.age) lacks next) (λ on. omega arith) (λ off. omega arith)

-- ---- Ages grow

less : (wait elapsed age : ℕ) → wait ≤ oldest → wait - grown_age elapsed age ≡ wait - age - elapsed
unfolding grown_age
less wait elapsed age h = omega arith

both_fall : (elapsed a b : ℕ) → Falls elapsed (max a b) (max (a - elapsed) (b - elapsed))
both_fall elapsed a b = omega arith

module _ (elapsed general opposite : ℕ) where
  pub lacking_falls :
      Falls elapsed (lacking general opposite) (lacking (grown_age elapsed general) (grown_age elapsed opposite))
  lacking_falls =
      rw (less 199 elapsed general (omega arith), less 99 elapsed opposite (omega arith))
      (both_fall elapsed (199 - general) (99 - opposite))

  -- Where one of the two ages is still too low after the step, all of what has elapsed was lacking.
  general_low : grown_age elapsed general < 200 → elapsed ≤ lacking general opposite
  unfolding grown_age
  general_low h = omega arith

  opposite_low : grown_age elapsed opposite < 100 → elapsed ≤ lacking general opposite
  unfolding grown_age
  opposite_low h = omega arith

-- ---- One order over a step

-- An order that stays on, by the last age without its work done.
on_falls :
    (limit elapsed top age next later : ℕ) →
    top < oldest →
    grown_age elapsed age ≤ top →
    Falls elapsed next later →
    elapsed + max (top - grown_age elapsed age + limit) later ≤ max (top - age + limit) next
unfolding grown_age
on_falls limit elapsed top age next later high h f = omega arith

module _ (limit elapsed span : ℕ) (within : elapsed ≤ limit) (is_span : IsSpan span) where
  -- The numbers: an order stays on, starts, or is still held back.
  stays_on :
      (age next later : ℕ) →
      grown_age elapsed age < span →
      Falls elapsed next later →
      elapsed + max (last span - grown_age elapsed age + limit) later ≤ max (last span - age + limit) next
  stays_on age next later h f = on_falls limit elapsed (last span) age next later (omega arith) (omega arith) f

  starts : (lacks later : ℕ) → later ≤ 199 → elapsed + max (last span - 0 + limit) later ≤ lacks + limit + (last span + limit)
  starts lacks later h = omega arith

  held_back :
      (lacks lacks' : ℕ) →
      Falls elapsed lacks lacks' →
      elapsed ≤ lacks →
      elapsed + (lacks' + limit + (last span + limit)) ≤ lacks + limit + (last span + limit)
  held_back lacks lacks' f h = omega arith

  -- An order that was off, by the two tests that let it start.
  module _ (general opposite : ℕ) where
    abbrev before : ℕ
    before = lacking general opposite

    abbrev after : ℕ
    after = lacking (grown_age elapsed general) (grown_age elapsed opposite)

    still_off : elapsed ≤ before → elapsed + (after + limit + (last span + limit)) ≤ before + limit + (last span + limit)
    still_off = held_back before after (lacking_falls elapsed general opposite)

    off_falls :
        (age later : ℕ) (general_old opposite_old : Bool) →
        later ≤ 199 →
        (T (not general_old) → grown_age elapsed general < 200) →
        (T (not opposite_old) → grown_age elapsed opposite < 100) →
        elapsed + work limit span (switched (general_old && opposite_old) (order false age)) after later ≤ before + limit + (last span + limit)
    unfolding switched
    off_falls age later true true small g p = starts before later small
    off_falls age later true false small g p = still_off (opposite_low elapsed general opposite (p tt))
    off_falls age later false true small g p = still_off (general_low elapsed general opposite (g tt))
    off_falls age later false false small g p = still_off (general_low elapsed general opposite (g tt))

  -- Over the orders as they are: general_EV on, the opposite off, the order itself wanted.
  by_parts :
      (general_on opposite_on on : Bool) (general opposite age next later : ℕ) →
      T general_on →
      (T opposite_on → ⊥) →
      (T on → grown_age elapsed age < span) →
      later ≤ 199 →
      Falls elapsed next later →
      elapsed +
      work limit span
      (directed true (grown elapsed (order general_on general)) (grown elapsed (order opposite_on opposite)) (grown elapsed (order on age)))
      (lacking (grown_age elapsed general) (grown_age elapsed opposite))
      later ≤
      work limit span (order on age) (lacking general opposite) next
  unfolding directed grown on_for off_for switched
  by_parts true false true general opposite age next later g p in_time small f = stays_on age next later (in_time tt) f
  by_parts true false false general opposite age next later g p in_time small f =
      off_falls general opposite (grown_age elapsed age) later (leb 200 (grown_age elapsed general)) (leb 100 (grown_age elapsed opposite)) small
      (nleb→lt 200 (grown_age elapsed general))
      (nleb→lt 100 (grown_age elapsed opposite))
  by_parts true true on general opposite age next later g p in_time small f = absurd (p tt)
  by_parts false opposite_on on general opposite age next later g p in_time small f = absurd g

  -- A wanted order that is not done takes less time after the step.
  pub goes_on :
      (g p o : Order) (next later : ℕ) →
      T g.on →
      (T p.on → ⊥) →
      (T o.on → grown_age elapsed o.age < span) →
      later ≤ 199 →
      Falls elapsed next later →
      elapsed +
      work limit span
      (directed true (grown elapsed g) (grown elapsed p) (grown elapsed o))
      (lacking (grown_age elapsed g.age) (grown_age elapsed p.age))
      later ≤
      work limit span o (lacking g.age p.age) next
  goes_on g p o next later = by_parts g.on p.on o.on g.age p.age o.age next later

  -- One that is done leaves time for what the next one lacks.
  pub is_done :
      (o : Order) (lacks next later : ℕ) → later ≤ 199 → Falls elapsed next later → elapsed + later ≤ work limit span o lacks next
  is_done o lacks next later small f =
      by_cases o.on (λ (on : Bool). elapsed + later ≤ work limit span (order on o.age) lacks next)
      (λ on. omega arith)
      (λ off. omega arith)
