-- One cylinder over a step: an order that is on with age a has moved it for a ms, before the step and after it. And where it then stands, by how
-- long the order has been on.
-- Assumes nothing.
use Prim.Native.Nat.{ℕ, ◌+◌, ◌-◌, ◌*◌, ◌≤◌, ◌<◌, min}
use native.Mathlib.Nat.{le_trans, le_of_eq, mul-add, mul-le-mul_left, mul-le-mul_right}
use native.Mathlib.Omega.{arith}
use mathlib.Core.Bool.{Bool, true, false}
use mathlib.Core.Logic.{◌⊎◌}
use mathlib.Core.Logic.◌⊎◌.{inl, inr}
use mathlib.Core.Path.{◌≡◌, refl, ap}
use lib.Dec.{T, eqb, leb→le}
use mir.Facts.{and_yes}
use Rattle.orders.specs.declared.Order.{Order}
use Rattle.orders.specs.Timing.{oldest, order, grown_age, grown, on_for, switched}
use Rattle.cylinder.specs.declared.Cylinder.{Cylinder}
use Rattle.cylinder.specs.Fractions.{stroke, fraction}
use Rattle.cylinder.specs.Moves.{fastest, cylinder_at, moved}
use Rattle.cylinder.proofs.Taken.{position_of_fraction}
use Rattle.cylinder.proofs.Laws.{moved_out_by_parts, moved_in_by_parts, held_by_parts}
use Rattle.joined.specs.declared.Given.{Given}
use Rattle.joined.specs.Drives.{ordered, drive_by, moved_or}
use Rattle.joined.specs.Sensors.{is_at, stands_at}
use Rattle.hydraulics.specs.Inputs.{RateFrom}
use Rattle.hydraulics.specs.Law.{StandsBy}

-- ---- The numbers

further_out : (s before more way k : ℕ) → min s before ≤ k → more ≤ way → min s (before + more) ≤ min s (k + way)
further_out s before more way k h h' = omega arith

further_in : (s before more way k : ℕ) → k + min s before ≤ s → more ≤ way → k - way + min s (before + more) ≤ s
further_in s before more way k h h' = omega arith

less : (s a b k : ℕ) → a ≤ b → min s b ≤ k → min s a ≤ k
less s a b k h h' = omega arith

less_in : (s a b k : ℕ) → a ≤ b → k + min s b ≤ s → k + min s a ≤ s
less_in s a b k h h' = omega arith

-- An age that stops at 60,000 is no more than what it was and what has elapsed.
grows_by : (least elapsed age : ℕ) → least * grown_age elapsed age ≤ least * age + least * elapsed
unfolding grown_age
grows_by least elapsed age =
    let most : min (age + elapsed) oldest ≤ age + elapsed = omega arith in
    le_trans (mul-le-mul_left least most) (le_of_eq (mul-add least age elapsed))

-- ---- The move

module _ (least elapsed : ℕ) (k shown n : ℕ) (inside : k ≤ stroke) (shows : shown ≤ fastest) (positive : 1 ≤ n) (slow : n ≤ fastest) (fast : least ≤ n) where
  abbrev After : Bool → Bool → Cylinder
  After out in' = moved_or (cylinder_at k shown) (moved (cylinder_at k shown) (ordered out in' (fraction n)) elapsed)

  way : least * elapsed ≤ n * elapsed
  way = mul-le-mul_right elapsed fast

  -- By the two orders, of which one at most is on.
  by_orders : (out in' : Bool) (out_age in_age : ℕ) → (T out → T in' → ⊥)
      → (T out → min stroke (least * out_age) ≤ k)
      → (T in' → k + min stroke (least * in_age) ≤ stroke)
      → StandsBy least (grown elapsed (order out out_age)) (grown elapsed (order in' in_age)) (After out in')
  unfolding ordered grown
  by_orders true true out_age in_age apart o i = absurd (apart tt tt)
  by_orders true false out_age in_age apart o i =
      record {
        position = min stroke (k + n * elapsed);
        rate = n;
        is = ap (moved_or (cylinder_at k shown)) (moved_out_by_parts k shown inside shows elapsed n positive slow);
        at_most = omega arith;
        shows = slow;
        moved_out = λ on.
            less stroke _ _ _ (grows_by least elapsed out_age)
            (further_out stroke (least * out_age) (least * elapsed) (n * elapsed) k (o tt) way);
        moved_in = λ on. absurd on;
      }
  by_orders false true out_age in_age apart o i =
      record {
        position = k - n * elapsed;
        rate = n;
        is = ap (moved_or (cylinder_at k shown)) (moved_in_by_parts k shown inside shows elapsed n positive slow);
        at_most = omega arith;
        shows = slow;
        moved_out = λ on. absurd on;
        moved_in = λ on.
            less_in stroke _ _ _ (grows_by least elapsed in_age)
            (further_in stroke (least * in_age) (least * elapsed) (n * elapsed) k (i tt) way);
      }
  by_orders false false out_age in_age apart o i =
      record {
        position = k;
        rate = 0;
        is = ap (moved_or (cylinder_at k shown)) (held_by_parts k shown inside shows elapsed);
        at_most = inside;
        shows = omega arith;
        moved_out = λ on. absurd on;
        moved_in = λ on. absurd on;
      }

-- A cylinder moves with its orders, whose ages grow.
pub moves_with : (least elapsed : ℕ) → 1 ≤ least → (o i : Order) → (T o.on → T i.on → ⊥) → (c : Cylinder) → StandsBy least o i c
    → (g : Given) → RateFrom least g
    → StandsBy least (grown elapsed o) (grown elapsed i) (moved_or c (moved c (drive_by o.on i.on g) elapsed))
moves_with least elapsed some o i apart c s g r =
    rw (s.is, r.is)
    (by_orders least elapsed s.position s.rate r.parts s.at_most s.shows (le_trans some r.at_least) r.at_most r.at_least
    o.on i.on o.age i.age apart s.moved_out s.moved_in)

-- ---- The orders of the step

-- An order that is on after it has been switched has age 0, or was on with the same age.
on_by : (to on : Bool) (age : ℕ) → T (switched to (order on age)).on
    → ((switched to (order on age)).age ≡ 0) ⊎ (T on × ((switched to (order on age)).age ≡ age))
unfolding switched
on_by true true age h = inr (tt, refl)
on_by true false age h = inl refl
on_by false true age h = absurd h
on_by false false age h = absurd h

on_after : (to : Bool) (o : Order) → T (switched to o).on → ((switched to o).age ≡ 0) ⊎ (T o.on × ((switched to o).age ≡ o.age))
on_after to o = on_by to o.on o.age

nothing_yet : (s least age k : ℕ) → age ≡ 0 → min s (least * age) ≤ k
nothing_yet s least age k e = rw e (omega arith)

nothing_in : (s least age k : ℕ) → age ≡ 0 → k ≤ s → k + min s (least * age) ≤ s
nothing_in s least age k e h = rw e (omega arith)

-- So a cylinder stands by them too.
pub stands_switched : (least : ℕ) (o i : Order) (c : Cylinder) → StandsBy least o i c → (out in' : Bool) → StandsBy least (switched out o) (switched in' i) c
stands_switched least o i c s out in' =
    record {
      position = s.position;
      rate = s.rate;
      is = s.is;
      at_most = s.at_most;
      shows = s.shows;
      moved_out = λ on. by_out (on_after out o on);
      moved_in = λ on. by_in (on_after in' i on);
    }
  where
    by_out : ((switched out o).age ≡ 0) ⊎ (T o.on × ((switched out o).age ≡ o.age)) → min stroke (least * (switched out o).age) ≤ s.position
    by_out (inl e) = nothing_yet stroke least _ _ e
    by_out (inr h) = rw h.1 (s.moved_out h.0)

    by_in : ((switched in' i).age ≡ 0) ⊎ (T i.on × ((switched in' i).age ≡ i.age)) → s.position + min stroke (least * (switched in' i).age) ≤ stroke
    by_in (inl e) = nothing_in stroke least _ _ e s.at_most
    by_in (inr h) = rw h.1 (s.moved_in h.0)

-- ---- Where it stands after a time

pub seen_at : (n least : ℕ) (o i : Order) (c : Cylinder) (s : StandsBy least o i c) → stands_at n c ≡ eqb s.position n
unfolding stands_at cylinder_at
seen_at n least o i c s = rw s.is (ap (is_at n) (position_of_fraction s.position s.at_most))

on_long : (ms : ℕ) (o : Order) → T (on_for ms o) → T o.on × (ms ≤ o.age)
unfolding on_for
on_long ms o h = let parts = and_yes o.on _ h in (parts.0, leb→le ms o.age parts.1)

-- With enough time it is at the end to which it moves, ..
module _ (least ms : ℕ) (o i : Order) (c : Cylinder) (s : StandsBy least o i c) where
  pub arrived_out : stroke ≤ least * ms → T (on_for ms o) → s.position ≡ stroke
  arrived_out enough late =
      let long = on_long ms o late in
      omega (arith, s.at_most, s.moved_out long.0, le_trans enough (mul-le-mul_left least long.1))

  pub arrived_in : stroke ≤ least * ms → T (on_for ms i) → s.position ≡ 0
  arrived_in enough late =
      let long = on_long ms i late in
      omega (arith, s.moved_in long.0, le_trans enough (mul-le-mul_left least long.1))

  -- .. and in any time it has left the other.
  pub left_in : 1 ≤ least * ms → T (on_for ms o) → 1 ≤ s.position
  left_in some late =
      let long = on_long ms o late in omega (arith, s.moved_out long.0, le_trans some (mul-le-mul_left least long.1))

  pub left_out : 1 ≤ least * ms → T (on_for ms i) → s.position < stroke
  left_out some late =
      let long = on_long ms i late in omega (arith, s.moved_in long.0, le_trans some (mul-le-mul_left least long.1))
