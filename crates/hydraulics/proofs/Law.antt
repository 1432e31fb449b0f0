-- Red never lights in the joined rig. By induction over the steps: the cylinders stand as far as the orders have moved them, so the monitors find no
-- cause; the orders of the step start with age 0 or go on; handle, age and channels are the rig's own. Of the controller nothing more is used than
-- that opposites are never on together. Neither limit nor sequence enters.
-- Assumes nothing.
use Prim.Native.Nat.{ℕ, ◌≤◌}
use native.Mathlib.Nat.{le_trans}
use mathlib.Core.Bool.{Bool, true, false, cond, not, ◌&&◌, ◌||◌, beq}
use mathlib.Core.List.{List, [], ◌∷◌}
use mathlib.Core.Path.{◌≡◌, refl, ◌∙◌, ap, ap₂, subst⁻¹}
use lib.Dec.{eqb, lit≤}
use borrow.Author.Tests.{eqb-true, eqb-false}
use Rattle.common.specs.Lists.{Each}
use Rattle.voter.specs.declared.Voter.{Voter}
use Rattle.voter.specs.Voting.{fresh_with, value_of}
use Rattle.orders.specs.declared.Order.{Order}
use Rattle.orders.specs.declared.Orders.{Orders}
use Rattle.orders.specs.Timing.{grown_age, grown, all_grown, on_for, off_for, wanted_of, directed, orders_of}
use Rattle.monitors.specs.declared.Sight.{Sight}
use Rattle.monitors.specs.Causes.{cause_of}
use Rattle.sequence.specs.declared.Aim.{Aim}
use Rattle.sequence.specs.declared.Place.{Place}
use Rattle.controller.specs.declared.Core.{Core}
use Rattle.controller.specs.declared.State.{State}
use Rattle.controller.specs.Votes.{sensor, all_voted, sight_of}
use Rattle.controller.specs.Start.{off_long, fresh_orders, fresh_core, fresh_voters, fresh_of}
use Rattle.controller.specs.Stages.{anomaly, core_step, turned, accepted}
use Rattle.controller.specs.Shows.{general_ev}
use Rattle.image.specs.Conditions.{Allowed}
use Rattle.cylinder.specs.declared.Cylinder.{Cylinder}
use Rattle.cylinder.specs.Fractions.{stroke}
use Rattle.cylinder.specs.Moves.{cylinder_at}
use Rattle.joined.specs.declared.Given.{Given}
use Rattle.joined.specs.declared.Rig.{Rig}
use Rattle.joined.specs.Rigs.{start_cylinders, start_of, elapsed_at, since_move, moved_at, read_at, accepted_rig}
use Rattle.joined.proofs.Steps.{accepted_is, refused_keeps}
use Rattle.laws.proofs.Stages.{stages, core_stages}
use Rattle.laws.proofs.Lifted.{core_of_accepted, accepted_allowed, fresh_allowed}
use Rattle.laws.proofs.Safety.{opposites_by_the_rules}
use Rattle.laws.proofs.Sensors.{fresh_each}
use Rattle.hydraulics.specs.Inputs.{Input, stepped, next, after, RatesFrom, ToldFrom}
use Rattle.hydraulics.specs.Law.{slowest_doors, slowest_gears, OfEveryRun, NotRed, StandsBy, AsFarAsOrdered, AllChannels, InStep}
use Rattle.hydraulics.proofs.Heard.{none_struck}
use Rattle.hydraulics.proofs.Moving.{stands_switched}
use Rattle.hydraulics.proofs.Quiet.{no_cause}
use Rattle.hydraulics.proofs.Sensed.{seen_by, Sensed, sensed, handle_is}

-- ---- What a step of the core does

module _ (elapsed : ℕ) (turned : Bool) (aim : Aim) (see : Sight) (c : Core) where
  -- The handle's age.
  abbrev since_then : ℕ
  since_then = cond turned 0 (grown_age elapsed c.since)

  since_after : (core_step elapsed turned aim see c).since ≡ since_then
  unfolding core_stages
  since_after = refl

  -- Where there was no cause, it is the one that the monitors find.
  cause_after : c.cause ≡ 0 → (core_step elapsed turned aim see c).cause ≡ cause_of (all_grown elapsed c.orders) since_then see
  unfolding core_stages anomaly
  cause_after none = rw none refl

-- The orders start with age 0 or go on.
stands_directed : (least : ℕ) (wanted wanted' : Bool) (general opposite opposite' o i : Order) (c : Cylinder) → StandsBy least o i c
    → StandsBy least (directed wanted general opposite o) (directed wanted' general opposite' i) c
unfolding directed
stands_directed least wanted wanted' general opposite opposite' o i c s =
    stands_switched least o i c s (wanted && (o.on || on_for 200 general && off_for 100 opposite))
    (wanted' && (i.on || on_for 200 general && off_for 100 opposite'))

far_ordered : (doors gears : ℕ) (p : Place) (is_red : Bool) (os : Orders) (cs : List Cylinder) → AsFarAsOrdered doors gears os cs
    → AsFarAsOrdered doors gears (orders_of p is_red os) cs
unfolding orders_of
far_ordered doors gears p is_red os cs far =
    let door : (c : Cylinder) → StandsBy doors os.opens os.closes c → StandsBy doors (orders_of p is_red os).opens (orders_of p is_red os).closes c =
    λ c s. stands_directed doors (wanted_of p is_red).opens (wanted_of p is_red).closes os.general os.closes os.opens os.opens os.closes c s in
    let gear : (c : Cylinder) → StandsBy gears os.extends os.retracts c → StandsBy gears (orders_of p is_red os).extends (orders_of p is_red os).retracts c =
    λ c s. stands_directed gears (wanted_of p is_red).extends (wanted_of p is_red).retracts os.general os.retracts os.extends os.extends os.retracts c s in
    record {
      door_front = far.door_front;
      door_left = far.door_left;
      door_right = far.door_right;
      gear_front = far.gear_front;
      gear_left = far.gear_left;
      gear_right = far.gear_right;
      are = far.are;
      of_doors = (door far.door_front far.of_doors.0, door far.door_left far.of_doors.1, door far.door_right far.of_doors.2);
      of_gears = (gear far.gear_front far.of_gears.0, gear far.gear_left far.of_gears.1, gear far.gear_right far.of_gears.2);
    }

-- .. after a step of the core.
far_stepped : (doors gears elapsed : ℕ) (turned : Bool) (aim : Aim) (see : Sight) (c : Core) (cs : List Cylinder)
    → AsFarAsOrdered doors gears (all_grown elapsed c.orders) cs
    → AsFarAsOrdered doors gears (core_step elapsed turned aim see c).orders cs
unfolding core_stages
far_stepped doors gears elapsed turned aim see c cs far = far_ordered doors gears _ _ (all_grown elapsed c.orders) cs far

-- The voted handle that changed is the rig's that moved.
turned_is_moved : (was is : Bool) (age : ℕ) → cond (not (beq was is)) 0 age ≡ cond (beq is was) age 0
turned_is_moved true true age = refl
turned_is_moved true false age = refl
turned_is_moved false true age = refl
turned_is_moved false false age = refl

-- ---- One accepted step of the rig

module _ (doors gears : ℕ) (fast_doors : slowest_doors ≤ doors) (fast_gears : slowest_gears ≤ gears) where
  -- What goes on from step to step.
  pub record Carried (rig : Rig) : Type 0 where
    pub kept_in_step : InStep doors gears rig
    pub allowed : Allowed rig.controller
    pub calm : rig.controller.core.cause ≡ 0

  module _ (rig : Rig) (h : Carried rig) (stamp : ℕ) (down : Bool) (givens : List Given) (rates : RatesFrom doors gears givens) where
    abbrev state : State
    state = rig.controller

    abbrev elapsed : ℕ
    elapsed = elapsed_at rig stamp

    abbrev since : ℕ
    since = since_move rig stamp down

    abbrev sample : List ℕ
    sample = (read_at rig stamp down givens).sample

    abbrev votes : List Voter
    votes = all_voted sample state.voters

    pub step_sensed : Sensed doors gears rig stamp down givens
    step_sensed =
        sensed doors gears (le_trans (lit≤ tt) fast_doors) (le_trans (lit≤ tt) fast_gears) rig (opposites_by_the_rules state h.allowed.rules)
        h.kept_in_step.cylinders stamp down givens rates h.allowed.sensors h.kept_in_step.channels

    -- The controller after the step.
    abbrev later : State
    later = accepted state stamp sample

    since_is : cond (turned state.voters votes) 0 (grown_age elapsed state.core.since) ≡ since
    unfolding turned since_move
    since_is =
        rw (h.kept_in_step.handle_is, handle_is doors gears rig stamp down givens step_sensed, h.kept_in_step.age_is)
        (turned_is_moved rig.down down (grown_age elapsed rig.since))

    calm_after : later.core.cause ≡ 0
    unfolding all_grown grown
    calm_after =
        let far = step_sensed.far in
        ap (λ (core : Core). core.cause) (core_of_accepted state stamp sample)
        ∙ cause_after elapsed (turned state.voters votes) _ (sight_of votes) state.core h.calm
        ∙ ap₂ (λ (age : ℕ) (vs : List Voter). cause_of (all_grown elapsed state.core.orders) age (sight_of vs)) since_is step_sensed.voted
        ∙ no_cause doors gears fast_doors fast_gears (all_grown elapsed state.core.orders)
        far.door_front far.door_left far.door_right far.gear_front far.gear_left far.gear_right
        far.of_doors.0 far.of_doors.1 far.of_doors.2 far.of_gears.0 far.of_gears.1 far.of_gears.2 down since

    carried_on : Carried (accepted_rig rig stamp down givens)
    unfolding accepted_rig read_at stages
    carried_on =
        record {
          kept_in_step =
              record {
                cylinders =
                    subst⁻¹ (λ (core : Core). AsFarAsOrdered doors gears core.orders (moved_at rig stamp givens)) (core_of_accepted state stamp sample)
                    (far_stepped doors gears elapsed (turned state.voters votes) _ (sight_of votes) state.core (moved_at rig stamp givens) step_sensed.far);
                handle_is = handle_is doors gears rig stamp down givens step_sensed;
                age_is =
                    ap (λ (core : Core). core.since) (core_of_accepted state stamp sample)
                    ∙ since_after elapsed (turned state.voters votes) _ (sight_of votes) state.core
                    ∙ since_is;
                channels = subst⁻¹ (Each AllChannels) step_sensed.voted (none_struck (seen_by down since (general_ev state) step_sensed.far));
              };
          allowed = accepted_allowed state stamp sample h.allowed;
          calm = calm_after;
        }

  -- ---- Every step, from the start

  -- Doors at 0, gears at 1, all orders off.
  at_start : (k : ℕ) → k ≤ stroke → (least : ℕ) → StandsBy least off_long off_long (cylinder_at k 0)
  unfolding off_long
  at_start k on_stroke least =
      record {
        position = k;
        rate = 0;
        is = refl;
        at_most = on_stroke;
        shows = lit≤ tt;
        moved_out = λ on. absurd on;
        moved_in = λ on. absurd on;
      }

  pub started : (stamp : ℕ) → Carried (start_of stamp)
  unfolding start_of start_cylinders fresh_of fresh_core fresh_orders fresh_voters sensor value_of fresh_with
  started stamp =
      let door : StandsBy doors off_long off_long (cylinder_at 0 0) = at_start 0 (lit≤ tt) doors in
      let gear : StandsBy gears off_long off_long (cylinder_at stroke 0) = at_start stroke (lit≤ tt) gears in
      record {
        kept_in_step =
            record {
              cylinders =
                  record {
                    door_front = cylinder_at 0 0;
                    door_left = cylinder_at 0 0;
                    door_right = cylinder_at 0 0;
                    gear_front = cylinder_at stroke 0;
                    gear_left = cylinder_at stroke 0;
                    gear_right = cylinder_at stroke 0;
                    are = refl;
                    of_doors = (door, door, door);
                    of_gears = (gear, gear, gear);
                  };
              handle_is = refl;
              age_is = refl;
              channels = fresh_each AllChannels (λ held. refl) stamp;
            };
        allowed = fresh_allowed stamp;
        calm = refl;
      }

  module _ (limit : ℕ) where
    -- A refused step leaves the rig as it was.
    pub step_carries : (rig : Rig) → Carried rig → (i : Input) → ((stepped limit rig i).refusal ≡ 0 → RatesFrom doors gears i.givens) → Carried (next limit rig i)
    step_carries rig h i told = by (eqb (stepped limit rig i).refusal 0) refl
      where
        by : (is_taken : Bool) → eqb (stepped limit rig i).refusal 0 ≡ is_taken → Carried (next limit rig i)
        by true e =
            let taken : (stepped limit rig i).refusal ≡ 0 = eqb-true (stepped limit rig i).refusal 0 e in
            subst⁻¹ Carried (accepted_is limit rig i.stamp i.down i.givens taken).after
            (carried_on rig h i.stamp i.down i.givens (told taken))
        by false e =
            subst⁻¹ Carried (refused_keeps limit rig i.stamp i.down i.givens (eqb-false (stepped limit rig i).refusal 0 e)) h

    pub steps_carry : (rig : Rig) → Carried rig → (inputs : List Input) → ToldFrom limit doors gears rig inputs → Carried (after limit rig inputs)
    unfolding after ToldFrom
    steps_carry rig h [] told = h
    steps_carry rig h (i ∷ is) told = steps_carry (next limit rig i) (step_carries rig h i told.0) is told.1

    -- ---- The law

    -- Cylinders, handle, its age and channels, after every run.
    pub in_step : OfEveryRun limit doors gears (InStep doors gears)
    in_step stamp inputs told = (steps_carry (start_of stamp) (started stamp) inputs told).kept_in_step

    -- "Red never lights however the handle moves."
    pub never_red : OfEveryRun limit doors gears NotRed
    unfolding anomaly
    never_red stamp inputs told = rw (steps_carry (start_of stamp) (started stamp) inputs told).calm refl
