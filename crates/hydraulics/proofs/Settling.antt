-- With the handle held the joined rig settles without red, and sooner than demand 3 says: an order that is on with age a has moved its cylinders for
-- a ms, so that doors and gears are seen where it takes them as soon as their rates allow. The rest is the theorem behind demand 3, by these spans.
-- Assumes nothing.
use Prim.Native.Nat.{ℕ, ◌+◌, ◌-◌, ◌*◌, ◌%◌, ◌≤◌, ◌<◌}
use native.Mathlib.Nat.{le_refl, le_trans, mul-le-mul_left, mul_comm, div-add-mod', mod-lt}
use native.Mathlib.Omega.{arith}
use mathlib.Core.Bool.{Bool, true, false, not, ◌&&◌}
use mathlib.Core.List.{List, [], ◌∷◌, map}
use mathlib.Core.Path.{◌≡◌, refl, ◌∙◌, ap, subst, subst⁻¹}
use lib.Dec.{T, leb, nleb→lt, lit≤}
use Rattle.voter.specs.declared.Voter.{Voter}
use Rattle.voter.specs.Voting.{fresh_with, value_of}
use Rattle.sequence.specs.declared.Aim.{Aim}
use Rattle.sequence.specs.declared.Aim.TheVariants.{ToRetracted, ToExtended}
use Rattle.sequence.specs.Moves.{aim_of, aim_in_force}
use Rattle.orders.specs.declared.Order.{Order}
use Rattle.orders.specs.declared.Orders.{Orders}
use Rattle.orders.specs.Timing.{grown_age, grown, all_grown, on_for}
use Rattle.controller.specs.declared.Core.{Core}
use Rattle.controller.specs.declared.State.{State}
use Rattle.controller.specs.Votes.{sensor, three_from, all_voted, sight_of, seen_of, aimed, on_ground}
use Rattle.controller.specs.Stages.{anomaly, turned, in_force}
use Rattle.controller.specs.Shows.{general_ev}
use Rattle.cylinder.specs.Fractions.{stroke}
use Rattle.cylinder.specs.Moves.{fastest}
use Rattle.joined.specs.declared.Rig.{Rig}
use Rattle.joined.specs.Rigs.{start_of, elapsed_at, since_move, moved_at, read_at, accepted_rig}
use Rattle.joined.proofs.Steps.{accepted_is}
use Rattle.laws.proofs.Lifted.{core_of_accepted}
use Rattle.settling.specs.Settled.{is_home, settled, SettledWithin, UnsettledIsEarly}
use Rattle.settling.specs.CoreRuns.{Told, core_next, core_after, Within, elapsed_told, IsSpan, AreSpans, bound_by, OnUnder, towards_aim, seen_at_aim, InTime, AllInTime, OfEveryCoreRunInTime}
use Rattle.settling.proofs.CoreSettles.{core_settles_by_spans, core_unsettled_is_early_by_spans}
use Rattle.hydraulics.specs.Inputs.{Input, stepped, next, after, RatesFrom}
use Rattle.hydraulics.specs.Law.{slowest_doors, slowest_gears, AsFarAsOrdered}
use Rattle.hydraulics.specs.Settles.{stroke_time, spans_at, Held, elapsed_in, OfEveryHeldRun}
use Rattle.hydraulics.proofs.Quiet.{all_out, all_in}
use Rattle.hydraulics.proofs.Sensed.{seen_by, Sensed}
use Rattle.hydraulics.proofs.Law as law
use Rattle.hydraulics.proofs.Law.{Carried}

-- ---- The time of a stroke

module _ (n : ℕ) (some : 1 ≤ n) where
  parts : stroke_time n * n + (stroke + n - 1) % n ≡ stroke + n - 1
  unfolding stroke_time
  parts = div-add-mod' (stroke + n - 1) n

  -- It is enough.
  takes_it_over : stroke ≤ n * stroke_time n
  takes_it_over = rw (mul_comm n (stroke_time n)) (omega (arith, parts, mod-lt (stroke + n - 1) some))

  is_span : n ≤ fastest → IsSpan (stroke_time n)
  is_span slow =
      let t : ℕ = stroke_time n in
      let most : t * n ≤ t * fastest = mul-le-mul_left t slow in
      let least : t * 1 ≤ t * n = mul-le-mul_left t some in
      let over : stroke ≤ t * n = rw (mul_comm t n) takes_it_over in
      record { low = omega (arith, over, most); high = omega (arith, parts, least) }

-- An order that is on for less than it would take, where what it is for is not seen.
under : (on old seen : Bool) → (on && old && not seen) ≡ false → T (not seen) → T on → T (not old)
under true true true h n o = n
under true true false h n o = subst T h tt
under true false seen h n o = tt
under false old seen h n o = absurd o

on_under : (ms elapsed : ℕ) (o : Order) (seen : Bool) → (on_for ms (grown elapsed o) && not seen) ≡ false → OnUnder ms elapsed o seen
unfolding on_for grown
on_under ms elapsed o seen h n on = nleb→lt ms (grown_age elapsed o.age) (under o.on (leb ms (grown_age elapsed o.age)) seen h n on)

module _ (doors gears : ℕ) (fast_doors : slowest_doors ≤ doors) (fast_gears : slowest_gears ≤ gears) (limit : ℕ) where
  abbrev Goes : Rig → Type 0
  Goes rig = Carried doors gears fast_doors fast_gears rig

  -- Enough time for a stroke.
  over_doors : stroke ≤ doors * stroke_time doors
  over_doors = takes_it_over doors (le_trans (lit≤ tt) fast_doors)

  over_gears : stroke ≤ gears * stroke_time gears
  over_gears = takes_it_over gears (le_trans (lit≤ tt) fast_gears)

  -- ---- One step

  -- What a step tells the core of the controller.
  abbrev told_by : Rig → Input → Told
  told_by rig i =
      let votes : List Voter = all_voted (read_at rig i.stamp i.down i.givens).sample rig.controller.voters in
      record { elapsed = elapsed_at rig i.stamp; turned = turned rig.controller.voters votes; see = sight_of votes }

  module _ (rig : Rig) (h : Goes rig) (i : Input) (taken : (stepped limit rig i).refusal ≡ 0) (rates : RatesFrom doors gears i.givens) where
    abbrev state : State
    state = rig.controller

    abbrev os : Orders
    os = state.core.orders

    abbrev elapsed : ℕ
    elapsed = elapsed_at rig i.stamp

    abbrev votes : List Voter
    votes = all_voted (read_at rig i.stamp i.down i.givens).sample state.voters

    step_sensed : Sensed doors gears rig i.stamp i.down i.givens
    step_sensed = law.step_sensed doors gears fast_doors fast_gears rig h i.stamp i.down i.givens rates

    abbrev far : AsFarAsOrdered doors gears (all_grown elapsed os) (moved_at rig i.stamp i.givens)
    far = step_sensed.far

    abbrev seen : List Voter
    seen = map fresh_with (seen_by i.down (since_move rig i.stamp i.down) (general_ev state) far)

    -- No absorber is on ground, so the aim in force is the handle's.
    aim_is : in_force votes state.core ≡ aim_of i.down
    unfolding aim_in_force on_ground aimed three_from sensor value_of fresh_with
    aim_is = ap (λ (vs : List Voter). in_force vs state.core) step_sensed.voted

    core_next_lem : (next limit rig i).controller.core ≡ core_next (aim_of i.down) state.core (told_by rig i)
    unfolding core_next accepted_rig
    core_next_lem =
        ap (λ (r : Rig). r.controller.core) (accepted_is limit rig i.stamp i.down i.givens taken).after
        ∙ core_of_accepted state i.stamp (read_at rig i.stamp i.down i.givens).sample
        ∙ ap (λ (aim : Aim). core_next aim state.core (told_by rig i)) aim_is

    -- Doors, and gears, are seen where an order takes them once it is on for the time of a stroke.
    gears_in_time : (aim : Aim) → OnUnder (stroke_time gears) elapsed (towards_aim aim os) (seen_at_aim aim (seen_of (sight_of seen)))
    unfolding seen_of sight_of three_from sensor value_of fresh_with all_grown
    gears_in_time ToRetracted =
        on_under (stroke_time gears) elapsed os.retracts (sight_of seen).retracted.all
        (all_in gears gears (le_refl gears) (all_grown elapsed os).extends (all_grown elapsed os).retracts far.gear_front far.gear_left far.gear_right
        far.of_gears.0 far.of_gears.1 far.of_gears.2 (stroke_time gears) over_gears)
    gears_in_time ToExtended =
        on_under (stroke_time gears) elapsed os.extends (sight_of seen).extended.all
        (all_out gears gears (le_refl gears) (all_grown elapsed os).extends (all_grown elapsed os).retracts far.gear_front far.gear_left far.gear_right
        far.of_gears.0 far.of_gears.1 far.of_gears.2 (stroke_time gears) over_gears)

    in_time_by : (aim : Aim)
        → InTime (spans_at doors gears) aim state.core (record { elapsed = elapsed; turned = turned state.voters votes; see = sight_of seen })
    unfolding seen_of sight_of three_from sensor value_of fresh_with all_grown
    in_time_by aim =
        record {
          opens =
              on_under (stroke_time doors) elapsed os.opens (sight_of seen).opened.all
              (all_out doors doors (le_refl doors) (all_grown elapsed os).opens (all_grown elapsed os).closes far.door_front far.door_left far.door_right
              far.of_doors.0 far.of_doors.1 far.of_doors.2 (stroke_time doors) over_doors);
          closes =
              on_under (stroke_time doors) elapsed os.closes (sight_of seen).closed.all
              (all_in doors doors (le_refl doors) (all_grown elapsed os).opens (all_grown elapsed os).closes far.door_front far.door_left far.door_right
              far.of_doors.0 far.of_doors.1 far.of_doors.2 (stroke_time doors) over_doors);
          gears = gears_in_time aim;
        }

    in_time_lem : (aim : Aim) → InTime (spans_at doors gears) aim state.core (told_by rig i)
    in_time_lem aim =
        subst⁻¹ (λ (vs : List Voter). InTime (spans_at doors gears) aim state.core
        (record { elapsed = elapsed; turned = turned state.voters votes; see = sight_of vs })) step_sensed.voted (in_time_by aim)

  -- ---- A run with the handle held

  abbrev all_told : Rig → List Input → List Told
  all_told rig [] = []
  all_told rig (i ∷ is) = told_by rig i ∷ all_told (next limit rig i) is

  goes_on : (down : Bool) (rig : Rig) → Goes rig → (i : Input) (is : List Input) → Held limit doors gears down rig (i ∷ is) → Goes (next limit rig i)
  unfolding Held
  goes_on down rig h i is held = law.step_carries doors gears fast_doors fast_gears limit rig h i (λ taken. held.2)

  module _ (down : Bool) where
    core_after_lem : (rig : Rig) → Goes rig → (is : List Input) → Held limit doors gears down rig is
        → (after limit rig is).controller.core ≡ core_after (aim_of down) rig.controller.core (all_told rig is)
    unfolding after core_after Held
    core_after_lem rig h [] held = refl
    core_after_lem rig h (i ∷ is) held =
        core_after_lem (next limit rig i) (goes_on down rig h i is held) is held.3
        ∙ ap (λ (core : Core). core_after (aim_of down) core (all_told (next limit rig i) is))
        (core_next_lem rig h i held.0 held.2 ∙ ap (λ (d : Bool). core_next (aim_of d) rig.controller.core (told_by rig i)) held.1)

    all_in_time : (rig : Rig) → Goes rig → (is : List Input) → Held limit doors gears down rig is
        → AllInTime (spans_at doors gears) (aim_of down) rig.controller.core (all_told rig is)
    unfolding AllInTime Held
    all_in_time rig h [] held = tt
    all_in_time rig h (i ∷ is) held = (
      in_time_lem rig h i held.0 held.2 (aim_of down),
      subst (λ (core : Core). AllInTime (spans_at doors gears) (aim_of down) core (all_told (next limit rig i) is))
          (core_next_lem rig h i held.0 held.2 ∙ ap (λ (d : Bool). core_next (aim_of d) rig.controller.core (told_by rig i)) held.1)
          (all_in_time (next limit rig i) (goes_on down rig h i is held) is held.3),
    )

    all_within : (rig : Rig) → Goes rig → (is : List Input) → Held limit doors gears down rig is → Within limit (all_told rig is)
    unfolding Within Held
    all_within rig h [] held = tt
    all_within rig h (i ∷ is) held = (
      (accepted_is limit rig i.stamp i.down i.givens held.0).in_time,
      all_within (next limit rig i) (goes_on down rig h i is held) is held.3,
    )

    elapsed_told_lem : (rig : Rig) (is : List Input) → elapsed_in limit rig is ≡ elapsed_told (all_told rig is)
    unfolding elapsed_in elapsed_told
    elapsed_told_lem rig [] = refl
    elapsed_told_lem rig (i ∷ is) = ap (λ (n : ℕ). elapsed_at rig i.stamp + n) (elapsed_told_lem (next limit rig i) is)

    -- Behind every step it is not red.
    held_carries : (rig : Rig) → Goes rig → (is : List Input) → Held limit doors gears down rig is → Goes (after limit rig is)
    unfolding after Held
    held_carries rig h [] held = h
    held_carries rig h (i ∷ is) held = held_carries (next limit rig i) (goes_on down rig h i is held) is held.3

  -- Not red, so it is settled exactly if it is at rest.
  settled_is_rest : (aim : Aim) (core : Core) → core.cause ≡ 0 → settled aim core ≡ is_home aim core.place
  unfolding settled anomaly
  settled_is_rest aim core calm = rw calm refl

  -- Rates are 16 parts a ms at most, so the least are.
  are_spans : (i : Input) → RatesFrom doors gears i.givens → AreSpans (spans_at doors gears)
  are_spans i rates =
      record {
        doors = is_span doors (le_trans (lit≤ tt) fast_doors) (le_trans rates.of_doors.0.at_least rates.of_doors.0.at_most);
        gears = is_span gears (le_trans (lit≤ tt) fast_gears) (le_trans rates.of_gears.0.at_least rates.of_gears.0.at_most);
      }

  -- What holds of every run of the core that is in time holds of every run of the rig.
  by_the_core : (Says : ℕ → Bool → Type 0) → (AreSpans (spans_at doors gears) → OfEveryCoreRunInTime (spans_at doors gears) limit Says)
      → OfEveryHeldRun limit doors gears Says
  unfolding Held
  by_the_core Says of_the_core stamp before told down first rest held =
      let rig : Rig = after limit (start_of stamp) before in
      let h : Goes rig = law.steps_carry doors gears fast_doors fast_gears limit (start_of stamp) (law.started doors gears fast_doors fast_gears stamp) before told in
      let later : Goes (next limit rig first) = goes_on down rig h first rest held in
      let aim : Aim = aim_of down in
      let last : Rig = after limit rig (first ∷ rest) in
      let calm = (held_carries down rig h (first ∷ rest) held).calm in
      subst (Says (elapsed_in limit (next limit rig first) rest)) (settled_is_rest aim last.controller.core calm)
      (rw (core_after_lem down rig h (first ∷ rest) held, elapsed_told_lem down (next limit rig first) rest)
      (of_the_core (are_spans first held.2) aim rig.controller.core h.allowed.rules.moving_have_open (told_by rig first)
      (all_told (next limit rig first) rest)
      (all_within down (next limit rig first) later rest held.3)
      (subst (λ (core : Core). AllInTime (spans_at doors gears) aim core (all_told (next limit rig first) rest))
      (core_next_lem rig h first held.0 held.2 ∙ ap (λ (d : Bool). core_next (aim_of d) rig.controller.core (told_by rig first)) held.1)
      (all_in_time down (next limit rig first) later rest held.3))))

  -- ---- With the handle held it settles without red

  -- "196 + 6·limit + 2⌈16384/n⌉ + ⌈16384/m⌉" ms after its first step at the latest; ..
  pub settles : 0 < limit → OfEveryHeldRun limit doors gears (SettledWithin (bound_by (spans_at doors gears) limit))
  settles positive = by_the_core (SettledWithin (bound_by (spans_at doors gears) limit)) (λ are. core_settles_by_spans (spans_at doors gears) are limit positive)

  -- .. what is stronger: a step at which it is not at rest comes with elapsed and limit together at most that.
  pub not_at_rest_is_early : OfEveryHeldRun limit doors gears (UnsettledIsEarly limit (bound_by (spans_at doors gears) limit))
  not_at_rest_is_early =
      by_the_core (UnsettledIsEarly limit (bound_by (spans_at doors gears) limit)) (λ are. core_unsettled_is_early_by_spans (spans_at doors gears) are limit)

-- The published 15 s are kept at 4 and 4, and not at 3 and 2.
pub at_4_and_4 : bound_by (spans_at 4 4) 100 ≡ 13084
unfolding bound_by stroke_time
at_4_and_4 = refl

pub at_3_and_2 : bound_by (spans_at 3 2) 100 ≡ 19912
unfolding bound_by stroke_time
at_3_and_2 = refl
