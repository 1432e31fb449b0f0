-- The five orders by the aim, and what a step without a cause does to them in each phase: the one that is wanted starts or stays on,
-- the others are off with their ages grown, and general_EV stays on until doors are CLOSED.
-- Assumes nothing.
use mathlib.Core.Bool.{Bool, true, false, not}
use mathlib.Core.Path.{◌≡◌, refl}
use Prim.Native.Nat.{ℕ}
use lib.Dec.{T, T_not}
use Rattle.sequence.specs.declared.Aim.{Aim}
use Rattle.sequence.specs.declared.Aim.TheVariants.{ToRetracted, ToExtended}
use Rattle.orders.specs.declared.Order.{Order}
use Rattle.orders.specs.declared.Orders.{Orders}
use Rattle.orders.specs.Timing.{order, grown_age, grown, all_grown, switched, is_opening, is_closing, wanted_of, directed, off_together, general_of, orders_of}
use Rattle.sequence.specs.Places.{are_closed}
use Rattle.orders.proofs.Laws.{on_is_wanted, needed_keeps_general}
use Rattle.common.proofs.Tests.{by_cases}
use Rattle.settling.specs.CoreRuns.{towards_aim}
use Rattle.settling.proofs.Phases.{Phase, doors_in, at}
use Rattle.settling.proofs.Phases.Phase.{opening, opened, under_way, arrived, closing, closed}

-- The gears' orders are the one towards the aim and the one against it.
pub record Five : Type 0 where
  pub general : Order
  pub opens : Order
  pub closes : Order
  pub towards : Order
  pub against : Order

abbrev against_of : Aim → Orders → Order
against_of ToRetracted os = os.extends
against_of ToExtended os = os.retracts

abbrev pub facing : Aim → Orders → Five
facing aim os =
    record {
      general = os.general;
      opens = os.opens;
      closes = os.closes;
      towards = towards_aim aim os;
      against = against_of aim os;
    }

-- ---- A step that ends in a phase

abbrev pub is_over : Phase → Bool
is_over phase = are_closed (doors_in phase)

abbrev wants_opens : Phase → Bool
wants_opens phase = is_opening (doors_in phase)

abbrev wants_closes : Phase → Bool
wants_closes phase = is_closing (doors_in phase)

abbrev wants_towards : Phase → Bool
wants_towards opening = false
wants_towards opened = false
wants_towards under_way = true
wants_towards arrived = false
wants_towards closing = false
wants_towards closed = false

abbrev pub stepped : ℕ → Bool → Phase → Five → Five
stepped elapsed stops phase f =
    let general : Order = grown elapsed f.general in
    record {
      general = general_of (not (is_over phase)) stops general;
      opens = directed (wants_opens phase) general (grown elapsed f.closes) (grown elapsed f.opens);
      closes = directed (wants_closes phase) general (grown elapsed f.opens) (grown elapsed f.closes);
      towards = directed (wants_towards phase) general (grown elapsed f.against) (grown elapsed f.towards);
      against = directed false general (grown elapsed f.towards) (grown elapsed f.against);
    }

pub orders_stepped :
    (elapsed : ℕ) (aim : Aim) (phase : Phase) (os : Orders) →
    facing aim (orders_of (at aim phase) false (all_grown elapsed os)) ≡
    stepped elapsed (off_together (all_grown elapsed os)) phase (facing aim os)
unfolding orders_of wanted_of all_grown
orders_stepped elapsed ToRetracted opening os = refl
orders_stepped elapsed ToRetracted opened os = refl
orders_stepped elapsed ToRetracted under_way os = refl
orders_stepped elapsed ToRetracted arrived os = refl
orders_stepped elapsed ToRetracted closing os = refl
orders_stepped elapsed ToRetracted closed os = refl
orders_stepped elapsed ToExtended opening os = refl
orders_stepped elapsed ToExtended opened os = refl
orders_stepped elapsed ToExtended under_way os = refl
orders_stepped elapsed ToExtended arrived os = refl
orders_stepped elapsed ToExtended closing os = refl
orders_stepped elapsed ToExtended closed os = refl

-- ---- Which are on after it

pub record Standing (phase : Phase) (f : Five) : Type 0 where
  pub general : T (not (is_over phase)) → T f.general.on
  pub opens : T f.opens.on → T (wants_opens phase)
  pub closes : T f.closes.on → T (wants_closes phase)
  pub towards : T f.towards.on → T (wants_towards phase)
  pub against : T f.against.on → ⊥

pub stands : (elapsed : ℕ) (stops : Bool) (phase : Phase) (f : Five) → Standing phase (stepped elapsed stops phase f)
unfolding grown
stands elapsed stops phase f =
    record {
      general = needed_keeps_general (not (is_over phase)) stops (grown elapsed f.general);
      opens = on_is_wanted (wants_opens phase) _ _ _;
      closes = on_is_wanted (wants_closes phase) _ _ _;
      towards = on_is_wanted (wants_towards phase) _ _ _;
      against = on_is_wanted false _ _ _;
    }

-- ---- The ages that the others wait for

-- General_EV, on and needed.
pub general_age :
    (elapsed : ℕ) (stops : Bool) (g : Order) → T g.on → (general_of true stops (grown elapsed g)).age ≡ grown_age elapsed g.age
unfolding general_of switched grown
general_age elapsed stops g h =
    by_cases g.on (λ (on : Bool). (general_of true stops (grown elapsed (order on g.age))).age ≡ grown_age elapsed g.age)
    (λ on. refl)
    (λ off. absurd (T_not g.on off h))

-- One that is off and not wanted.
pub off_age :
    (elapsed : ℕ) (g p o : Order) → (T o.on → ⊥) → (directed false g p (grown elapsed o)).age ≡ grown_age elapsed o.age
unfolding directed switched grown
off_age elapsed g p o h =
    by_cases o.on (λ (on : Bool). (directed false g p (grown elapsed (order on o.age))).age ≡ grown_age elapsed o.age)
    (λ on. absurd (h on))
    (λ off. refl)
