-- A number that bounds the time left in each phase, by how soon doors and gears are seen. A step in time takes off it what has elapsed, it
-- is never over the bound, and it is no less than a step until doors are CLOSED.
-- Assumes nothing.
use mathlib.Core.Bool.{Bool, true, false, cond, not}
use mathlib.Core.Path.{◌≡◌}
use Prim.Native.Nat.{ℕ, ◌+◌, ◌≤◌, ◌<◌, zero-le}
use native.Mathlib.Omega.{arith}
use lib.Dec.{T}
use Rattle.sequence.specs.declared.Aim.{Aim}
use Rattle.sequence.specs.declared.Seen.{Seen}
use Rattle.orders.specs.declared.Order.{Order}
use Rattle.orders.specs.Timing.{grown_age, grown, directed}
use Rattle.common.proofs.Tests.{by_cases}
use Rattle.settling.specs.CoreRuns.{Spans, IsSpan, AreSpans, bound_by, seen_at_aim, OnUnder}
use Rattle.settling.proofs.Waits.{
  lacking,
  last,
  work,
  lacking_most,
  lacking_falls,
  work_most,
  work_least,
  goes_on,
  is_done,
}
use Rattle.settling.proofs.Phases.{Phase, onward}
use Rattle.settling.proofs.Phases.Phase.{opening, opened, under_way, arrived, closing, closed}
use Rattle.orders.proofs.Laws.{unwanted_stops}
use Rattle.settling.proofs.Five.{Five, is_over, stepped, Standing, general_age, off_age}

-- Until doors are open, until gears are there, and until doors are closed, with the order for it on or off.
abbrev opens_left : Spans → ℕ → Five → ℕ
opens_left spans limit f =
    work limit spans.doors f.opens (lacking f.general.age f.closes.age) (lacking f.general.age f.against.age)

abbrev gears_left : Spans → ℕ → Five → ℕ
gears_left spans limit f =
    work limit spans.gears f.towards (lacking f.general.age f.against.age) (lacking f.general.age f.opens.age)

abbrev closes_left : Spans → ℕ → Five → ℕ
closes_left spans limit f = work limit spans.doors f.closes (lacking f.general.age f.opens.age) 0

-- The same still ahead: a step for the move that starts it, and then its order.
abbrev gears_ahead : Spans → ℕ → ℕ
gears_ahead spans limit = limit + (last spans.gears + limit)

abbrev closes_ahead : Spans → ℕ → ℕ
closes_ahead spans limit = limit + (last spans.doors + limit)

abbrev pub left : Spans → ℕ → Phase → Five → ℕ
left spans limit opening f = opens_left spans limit f + (gears_ahead spans limit + closes_ahead spans limit)
left spans limit opened f = gears_left spans limit f + closes_ahead spans limit
left spans limit under_way f = gears_left spans limit f + closes_ahead spans limit
left spans limit arrived f = closes_left spans limit f
left spans limit closing f = closes_left spans limit f
left spans limit closed f = 0

-- ---- It is at most the bound

module _ (spans : Spans) (are : AreSpans spans) (limit w : ℕ) where
  opens_most : w ≤ 199 + limit + (last spans.doors + limit) → w + (gears_ahead spans limit + closes_ahead spans limit) ≤ bound_by spans limit
  unfolding bound_by
  opens_most h = omega arith

  gears_most : w ≤ 199 + limit + (last spans.gears + limit) → w + closes_ahead spans limit ≤ bound_by spans limit
  unfolding bound_by
  gears_most h = omega arith

  closes_most : w ≤ 199 + limit + (last spans.doors + limit) → w ≤ bound_by spans limit
  unfolding bound_by
  closes_most h = omega arith

module _ (spans : Spans) (are : AreSpans spans) (limit : ℕ) (f : Five) where
  gears_left_most : gears_left spans limit f + closes_ahead spans limit ≤ bound_by spans limit
  gears_left_most =
      gears_most spans are limit _ (work_most limit spans.gears f.towards _ _ are.gears (lacking_most _ _) (lacking_most _ _))

  closes_left_most : closes_left spans limit f ≤ bound_by spans limit
  closes_left_most = closes_most spans are limit _ (work_most limit spans.doors f.closes _ 0 are.doors (lacking_most _ _) zero-le)

  pub left_most : (phase : Phase) → left spans limit phase f ≤ bound_by spans limit
  left_most opening =
      opens_most spans are limit _ (work_most limit spans.doors f.opens _ _ are.doors (lacking_most _ _) (lacking_most _ _))
  left_most opened = gears_left_most
  left_most under_way = gears_left_most
  left_most arrived = closes_left_most
  left_most closing = closes_left_most
  left_most closed = zero-le

-- ---- It is at least a step

more : (a b k : ℕ) → a ≤ b → a ≤ b + k
more a b k h = omega arith

pub left_least : (spans : Spans) (limit : ℕ) (f : Five) (phase : Phase) → T (not (is_over phase)) → limit ≤ left spans limit phase f
left_least spans limit f opening h = more limit _ _ (work_least limit spans.doors f.opens _ _)
left_least spans limit f opened h = more limit _ _ (work_least limit spans.gears f.towards _ _)
left_least spans limit f under_way h = more limit _ _ (work_least limit spans.gears f.towards _ _)
left_least spans limit f arrived h = work_least limit spans.doors f.closes _ _
left_least spans limit f closing h = work_least limit spans.doors f.closes _ _
left_least spans limit f closed h = absurd h

-- ---- A step in time takes off it what has elapsed

-- An order that is not wanted yet starts first.
unwanted_work :
    (limit span : ℕ) (g p o : Order) (lacks next : ℕ) →
    work limit span (directed false g p o) lacks next ≡ lacks + limit + (last span + limit)
unwanted_work limit span g p o lacks next = rw (unwanted_stops g p o)

then : (elapsed w w' ahead : ℕ) → elapsed + w' ≤ w → elapsed + (w' + ahead) ≤ w + ahead
then elapsed w w' ahead h = omega arith

module _ (spans : Spans) (limit elapsed w lacks : ℕ) (done : elapsed + lacks ≤ w) where
  gears_next :
      elapsed + (lacks + limit + (last spans.gears + limit) + closes_ahead spans limit) ≤
      w + (gears_ahead spans limit + closes_ahead spans limit)
  gears_next = omega arith

  closing_next : elapsed + (lacks + limit + (last spans.doors + limit)) ≤ w + closes_ahead spans limit
  closing_next = omega arith

module _ (spans : Spans) (are : AreSpans spans) (limit elapsed : ℕ) (within : elapsed ≤ limit) (stops : Bool) (f : Five) where
  abbrev FallsTo : Phase → Phase → Type 0
  FallsTo phase phase' = elapsed + left spans limit phase' (stepped elapsed stops phase' f) ≤ left spans limit phase f

  -- An order with another to follow, which waits for general_EV and for `next`: it goes on, or it is done.
  module _ (span : ℕ) (is_span : IsSpan span) (o next : Order) where
    goes :
        (p : Order) →
        T f.general.on →
        (T p.on → ⊥) →
        (T o.on → grown_age elapsed o.age < span) →
        elapsed +
        work limit span
        (directed true (grown elapsed f.general) (grown elapsed p) (grown elapsed o))
        (lacking (grown_age elapsed f.general.age) (grown_age elapsed p.age))
        (lacking (grown_age elapsed f.general.age) (grown_age elapsed next.age)) ≤
        work limit span o (lacking f.general.age p.age) (lacking f.general.age next.age)
    goes p g off in_time =
        goes_on limit elapsed span within is_span f.general p o _ _ g off in_time (lacking_most _ _)
        (lacking_falls elapsed f.general.age next.age)

    done :
        (lacks : ℕ) →
        elapsed + lacking (grown_age elapsed f.general.age) (grown_age elapsed next.age) ≤
        work limit span o lacks (lacking f.general.age next.age)
    done lacks =
        is_done limit elapsed span within is_span o lacks _ _ (lacking_most _ _) (lacking_falls elapsed f.general.age next.age)

  -- Doors are OPENING: they are seen open, or open_EV starts or goes on.
  opening_done : Standing opening f → FallsTo opening opened
  opening_done s =
      rw (unwanted_work limit spans.gears, general_age elapsed stops f.general (s.general tt), off_age elapsed _ _ f.against s.against)
      (gears_next spans limit elapsed _ _ (done spans.doors are.doors f.opens f.against _))

  opens_fall : Standing opening f → (T f.opens.on → grown_age elapsed f.opens.age < spans.doors) → FallsTo opening opening
  opens_fall s in_time =
      then elapsed _ _ _
      (rw (
        general_age elapsed stops f.general (s.general tt),
        off_age elapsed _ _ f.closes s.closes,
        off_age elapsed _ _ f.against s.against,
      )
      (goes spans.doors are.doors f.opens f.against f.closes (s.general tt) s.closes in_time))

  -- Gears start or go on towards the aim; or they are seen there.
  gears_fall :
      T f.general.on →
      (T f.opens.on → ⊥) →
      (T f.against.on → ⊥) →
      (T f.towards.on → grown_age elapsed f.towards.age < spans.gears) →
      FallsTo under_way under_way
  gears_fall g o a in_time =
      then elapsed _ _ _
      (rw (general_age elapsed stops f.general g, off_age elapsed _ _ f.opens o, off_age elapsed _ _ f.against a)
      (goes spans.gears are.gears f.towards f.opens f.against g a in_time))

  under_way_done : Standing under_way f → FallsTo under_way arrived
  under_way_done s =
      rw (unwanted_work limit spans.doors, general_age elapsed stops f.general (s.general tt), off_age elapsed _ _ f.opens s.opens)
      (closing_next spans limit elapsed _ _ (done spans.gears are.gears f.towards f.opens _))

  -- Close_EV starts or goes on; or doors are seen closed.
  closes_fall :
      T f.general.on →
      (T f.opens.on → ⊥) →
      (T f.closes.on → grown_age elapsed f.closes.age < spans.doors) →
      FallsTo closing closing
  closes_fall g o in_time =
      rw (general_age elapsed stops f.general g, off_age elapsed _ _ f.opens o)
      (goes_on limit elapsed spans.doors within are.doors f.general f.opens f.closes 0 0 g o in_time zero-le (omega arith))

  closing_done : FallsTo closing closed
  closing_done = is_done limit elapsed spans.doors within are.doors f.closes _ 0 0 zero-le (omega arith)

  -- A step in time, from any phase but the last.
  module _
      (aim : Aim)
      (seen : Seen)
      (opens : OnUnder spans.doors elapsed f.opens seen.opened)
      (closes : OnUnder spans.doors elapsed f.closes seen.closed)
      (gears : OnUnder spans.gears elapsed f.towards (seen_at_aim aim seen)) where
    pub left_falls :
        (phase : Phase) →
        T (not (is_over phase)) →
        Standing phase f →
        elapsed + left spans limit (onward aim seen phase) (stepped elapsed stops (onward aim seen phase) f) ≤ left spans limit phase f
    left_falls opening n s =
        by_cases seen.opened (λ (there : Bool). FallsTo opening (cond there opened opening)) (λ there. opening_done s)
        (λ away. opens_fall s (opens away))
    left_falls opened n s = gears_fall (s.general tt) s.opens s.against (λ on. absurd (s.towards on))
    left_falls under_way n s =
        by_cases (seen_at_aim aim seen) (λ (there : Bool). FallsTo under_way (cond there arrived under_way)) (λ there. under_way_done s)
        (λ away. gears_fall (s.general tt) s.opens s.against (gears away))
    left_falls arrived n s = closes_fall (s.general tt) s.opens (λ on. absurd (s.closes on))
    left_falls closing n s =
        by_cases seen.closed (λ (there : Bool). FallsTo closing (cond there closed closing)) (λ there. closing_done)
        (λ away. closes_fall (s.general tt) s.opens (closes away))
    left_falls closed n s = absurd n
