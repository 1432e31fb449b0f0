-- A step of the core lights red, or it is quiet: no cause holds, and doors, gears and orders go on by their rules.
-- Assumes nothing.
use mathlib.Core.Bool.{Bool, true, false, cond, not, ◌&&◌}
use mathlib.Core.List.{List, [], ◌∷◌}
use mathlib.Core.Logic.{◌⊎◌}
use mathlib.Core.Logic.◌⊎◌.{inl, inr}
use mathlib.Core.Path.{◌≡◌, refl, ap, subst⁻¹}
use Prim.Native.Nat.{ℕ, suc}
use native.Mathlib.Omega.{arith}
use lib.Dec.{T, leb, eqb, nleb→lt}
use borrow.Author.Tests.{eqb-true, eqb-false, not-false}
use Rattle.common.specs.Lowest.{lowest}
use Rattle.sequence.specs.declared.Aim.{Aim}
use Rattle.sequence.specs.declared.Aim.TheVariants.{ToRetracted, ToExtended}
use Rattle.sequence.specs.declared.Place.{Place}
use Rattle.sequence.specs.Moves.{move_of}
use Rattle.orders.specs.declared.Order.{Order}
use Rattle.orders.specs.declared.Orders.{Orders}
use Rattle.orders.specs.Timing.{on_for, grown_age, grown, all_grown, orders_of}
use Rattle.monitors.specs.Causes.{causes, cause_of}
use Rattle.controller.specs.declared.Core.{Core}
use Rattle.controller.specs.Votes.{seen_of}
use Rattle.controller.specs.Stages.{anomaly, core_ages, core_handle}
use Rattle.laws.proofs.Stages.{core_stages}
use Rattle.settling.specs.CoreRuns.{Told, core_next, monitored, towards_aim, seen_at_aim, OnUnder, InTime}

-- ---- Of numbered tests none holds

abbrev pub None : List Bool → Type 0
None [] = Unit {0}
None (t ∷ ts) = T (not t) × None ts

pub none_holds : (n : ℕ) (ts : List Bool) → lowest (suc n) ts ≡ 0 → None ts
none_holds n [] e = tt
none_holds n (true ∷ ts) e = absurd (omega arith)
none_holds n (false ∷ ts) e = (tt, none_holds (suc n) ts e)

-- ---- No cause: each order is in time

young : (on old seen : Bool) → T (not (on && old && not seen)) → T (not seen) → T on → T (not old)
young true true false h n o = h
young true true true h n o = n
young true false seen h n o = tt
young false old seen h n o = absurd o

in_time_lem :
    (ms elapsed : ℕ) (o : Order) (seen : Bool) →
    T (not (on_for ms (grown elapsed o) && not seen)) →
    OnUnder ms elapsed o seen
unfolding on_for grown
in_time_lem ms elapsed o seen h n on =
    let age : ℕ = grown_age elapsed o.age in
    nleb→lt ms age (young o.on (leb ms age) seen h n on)

module _ (since : ℕ) (c : Core) (t : Told) (none : None (causes (all_grown t.elapsed c.orders) since t.see)) where
  -- Causes 6 and 8.
  gears_in_time :
      (aim : Aim) →
      OnUnder monitored.gears t.elapsed (towards_aim aim c.orders) (seen_at_aim aim (seen_of t.see))
  unfolding causes all_grown seen_of
  gears_in_time ToRetracted = in_time_lem 10000 t.elapsed c.orders.retracts t.see.retracted.all none.1.1.1.1.1.0
  gears_in_time ToExtended = in_time_lem 10000 t.elapsed c.orders.extends t.see.extended.all none.1.1.1.1.1.1.1.0

  -- With causes 2 and 4.
  all_in_time : (aim : Aim) → InTime monitored aim c t
  unfolding causes all_grown seen_of
  all_in_time aim =
      record {
        opens = in_time_lem 7000 t.elapsed c.orders.opens t.see.opened.all none.1.0;
        closes = in_time_lem 7000 t.elapsed c.orders.closes t.see.closed.all none.1.1.1.0;
        gears = gears_in_time aim;
      }

-- ---- Red or quiet

pub record Quiet (aim : Aim) (c : Core) (t : Told) : Type 0 where
  pub moved : (core_next aim c t).place ≡ move_of aim c.place (seen_of t.see)
  pub ordered : (core_next aim c t).orders ≡ orders_of (move_of aim c.place (seen_of t.see)) false (all_grown t.elapsed c.orders)
  pub in_time : InTime monitored aim c t

-- The cause after a step is 0 only where it found none.
none_found : (kept found : ℕ) → not (eqb (cond (not (eqb kept 0)) kept found) 0) ≡ false → found ≡ 0
none_found kept found = either (eqb kept 0) refl
  where
    either : (none : Bool) → eqb kept 0 ≡ none → not (eqb (cond (not none) kept found) 0) ≡ false → found ≡ 0
    either true e h = eqb-true found 0 (not-false (eqb found 0) h)
    either false e h = absurd (eqb-false kept 0 e (eqb-true kept 0 (not-false (eqb kept 0) h)))

pub red_or_quiet : (aim : Aim) (c : Core) (t : Told) → T (anomaly (core_next aim c t)) ⊎ Quiet aim c t
unfolding core_next core_stages anomaly cause_of
red_or_quiet aim c t = either (anomaly after) refl
  where
    after : Core
    after = core_next aim c t

    since : ℕ
    since = (core_handle t.turned (core_ages t.elapsed c)).since

    os : Orders
    os = all_grown t.elapsed c.orders

    p : Place
    p = move_of aim c.place (seen_of t.see)

    none : anomaly after ≡ false → cause_of os since t.see ≡ 0
    none e = none_found c.cause (cause_of os since t.see) e

    either : (red : Bool) → anomaly after ≡ red → T (anomaly after) ⊎ Quiet aim c t
    either true e = inl (subst⁻¹ T e tt)
    either false e =
        inr
        (record {
          moved = ap (λ (red : Bool). cond red c.place p) e;
          ordered = ap (λ (red : Bool). orders_of (cond red c.place p) red os) e;
          in_time = all_in_time since c t (none_holds 0 (causes os since t.see) (none e)) aim;
        })
