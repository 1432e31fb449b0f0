-- Once red: the same cause for ever, nothing moves, the four orders are off, and general_EV stops within 1,000 ms, over every
-- further sequence of samples.
-- Assumes nothing.
use mathlib.Core.Bool.{Bool, true, false, cond, not, ◌&&◌, ◌||◌, beq}
use mathlib.Core.List.{List, [], ◌∷◌}
use mathlib.Core.Path.{◌≡◌, refl, ◌∙◌, subst, subst⁻¹}
use Prim.Native.Nat.{ℕ, ◌+◌, ◌≤◌, ◌<◌, zero-le, min}
use native.Mathlib.Omega.{arith}
use lib.Dec.{T, leb, eqb, leb→le, nleb→lt, T_not, not_T, lit<}
use lib.Ieee.Bits.{is_true}
use borrow.Author.Tests.{eq-eqb, le-leb}
use mir.Facts.{and_yes}
use Rattle.sequence.specs.declared.Place.{Place}
use Rattle.sequence.specs.Places.{are_closed}
use Rattle.orders.specs.declared.Order.{Order}
use Rattle.orders.specs.declared.Orders.{Orders}
use Rattle.orders.specs.Timing.{oldest, order, grown_age, grown, all_grown, off_for, off_together, general_of, orders_of}
use Rattle.orders.proofs.Laws.{switched_on}
use Rattle.controller.specs.declared.State.{State}
use Rattle.controller.specs.Stages.{anomaly, elapsed_of, accepted}
use Rattle.controller.specs.Steps.{step_of}
use Rattle.controller.specs.Shows.{general_ev, close_ev, open_ev, retract_ev, extend_ev, doors_of, red}
use Rattle.controller.specs.Samples.{Row, after}
use Rattle.laws.specs.Reached.{Reached}
use Rattle.laws.specs.Reached.Reached.{step}
use Rattle.laws.specs.Times.{next, accepted_at, accepted_in}
use Rattle.laws.specs.Ages.{changes_at, Timer, is_on, age_of}
use Rattle.laws.specs.Ages.Timer.{of_close, of_open, of_retract, of_extend}
use Rattle.laws.specs.Latched.{FourOff, Latched, OnceRed, GeneralByItsRule, GeneralOffIn}
use Rattle.laws.specs.Laws.{Always}
use Rattle.common.proofs.Tests.{by_cases}
use Rattle.laws.proofs.Stages.{stages, core_stages}
use Rattle.laws.proofs.Wanted.{close_says, open_says, retract_says, extend_says}
use Rattle.laws.proofs.Lifted.{step_keeps, taken_is_accepted}
use Rattle.laws.proofs.Safety.{an_order_that_is_on_is_wanted, ages_to_60000}
use Rattle.laws.proofs.Samples.{at_sample}
use Rattle.laws.proofs.Ages.{grown_or, next_age, at_most}

-- ---- One accepted step of a red state

-- A latched cause: the old one where there was one, and then there is one.
old_kept : (old new : ℕ) → T (not (eqb old 0)) → cond (not (eqb old 0)) old new ≡ old
old_kept old new is_red = rw (is_true (not (eqb old 0)) is_red) refl

stays : (is_red : Bool) (p moved : Place) → is_red ≡ true → cond is_red p moved ≡ p
stays is_red p moved e = rw e refl

-- General_EV is not needed with an anomaly.
general_red :
    (is_red out stops on : Bool) (age : ℕ) → is_red ≡ true → (general_of (out && not is_red) stops (order on age)).on ≡ (on && not stops)
unfolding general_of
general_red is_red out stops on age e = rw e (switched_on _ (order on age) ∙ told out on)
  where
    told : (out on : Bool) → cond on (out && false || not stops) (out && false) ≡ (on && not stops)
    told true true = refl
    told true false = refl
    told false true = refl
    told false false = refl

module _ (s : State) (is_red : T (red s)) (stamp : ℕ) (bytes : List ℕ) where
  accepted_cause : (accepted s stamp bytes).core.cause ≡ s.core.cause
  unfolding anomaly stages core_stages
  accepted_cause = old_kept s.core.cause _ is_red

  accepted_red : red (accepted s stamp bytes) ≡ true
  unfolding anomaly
  accepted_red = rw accepted_cause (is_true (red s) is_red)

  accepted_place : (accepted s stamp bytes).core.place ≡ s.core.place
  unfolding anomaly stages core_stages
  accepted_place = stays (red (accepted s stamp bytes)) s.core.place _ accepted_red

  accepted_general :
      general_ev (accepted s stamp bytes) ≡
      (general_ev s && not (off_together (all_grown (elapsed_of s.stamp stamp) s.core.orders)))
  unfolding anomaly stages core_stages orders_of all_grown grown
  accepted_general =
      let elapsed : ℕ = elapsed_of s.stamp stamp in
      general_red
      (red (accepted s stamp bytes))
      (not (are_closed (doors_of (accepted s stamp bytes))))
      (off_together (all_grown elapsed s.core.orders))
      (general_ev s)
      (grown_age elapsed s.core.orders.general.age)
      accepted_red

-- ---- Every sample after a red state

-- A reached state that is red has the four orders off: one that is on is wanted.
four_off : (s : State) → Reached s → T (red s) → FourOff s
four_off s reached is_red =
    let wanted = an_order_that_is_on_is_wanted s reached in
    let p : Place = s.core.place in
    let not_red : T (not (red s)) → ⊥ = λ calm. T_not (red s) calm is_red in (
      not_T (close_ev s) (λ on. not_red (close_says p (red s) (wanted.0 on)).1),
      not_T (open_ev s) (λ on. not_red (open_says p (red s) (wanted.1 on)).1),
      not_T (retract_ev s) (λ on. not_red (retract_says p (red s) (wanted.2 on)).1),
      not_T (extend_ev s) (λ on. not_red (extend_says p (red s) (wanted.3 on)).1),
    )

module _ (s : State) (is_red : T (red s)) (r : Row) where
  cause_next : (next s r).core.cause ≡ s.core.cause
  cause_next =
      step_keeps (λ (t : State). t.core.cause ≡ s.core.cause) s r.0 r.1 (accepted_cause s is_red r.0 r.1) refl

  place_next : (next s r).core.place ≡ s.core.place
  place_next =
      step_keeps (λ (t : State). t.core.place ≡ s.core.place) s r.0 r.1 (accepted_place s is_red r.0 r.1) refl

  red_next : T (red (next s r))
  red_next =
      step_keeps (λ (t : State). T (red t)) s r.0 r.1 (subst⁻¹ T (accepted_red s is_red r.0 r.1) tt) is_red

  general_next : T (general_ev (next s r)) → T (general_ev s)
  general_next =
      step_keeps (λ (t : State). T (general_ev t) → T (general_ev s)) s r.0 r.1
      (λ on. (and_yes (general_ev s) _ (subst T (accepted_general s is_red r.0 r.1) on)).0)
      (λ on. on)

-- ---- Every further sequence

pub once_red : Always OnceRed
unfolding after
once_red s reached is_red [] =
    record { is_red = is_red; same_cause = refl; nothing_moves = refl; four_off = four_off s reached is_red; general_stays = λ on. on }
once_red s reached is_red (r ∷ rs) =
    let later : Latched (next s r) (after (next s r) rs) = once_red (next s r) (step reached r.0 r.1) (red_next s is_red r) rs in
    record {
      is_red = later.is_red;
      same_cause = later.same_cause ∙ cause_next s is_red r;
      nothing_moves = later.nothing_moves ∙ place_next s is_red r;
      four_off = later.four_off;
      general_stays = λ on. general_next s is_red r (later.general_stays on);
    }

-- ---- General_EV

pub general_by_its_rule : Always GeneralByItsRule
unfolding accepted_at
general_by_its_rule s reached is_red r taken =
    rw (taken_is_accepted s r.0 r.1 taken, eq-eqb (step_of s r.0 r.1).refusal 0 taken)
    (accepted_general s is_red r.0 r.1)

-- Each of the four is this old.
abbrev Old : ℕ → Orders → Type 0
Old ms os = (ms ≤ os.closes.age) × (ms ≤ os.opens.age) × (ms ≤ os.retracts.age) × (ms ≤ os.extends.age)

-- Then they were off together long enough.
off_for_lem : (elapsed ms : ℕ) (o : Order) → 1000 ≤ ms + elapsed → T (not o.on) → ms ≤ o.age → off_for 1000 (grown elapsed o) ≡ true
unfolding off_for grown grown_age
off_for_lem elapsed ms o long off old = rw (is_true (not o.on) off) (le-leb 1000 (grown_age elapsed o.age) (omega arith))

together :
    (elapsed ms : ℕ) (s : State) → 1000 ≤ ms + elapsed → FourOff s → Old ms s.core.orders →
    T (off_together (all_grown elapsed s.core.orders))
unfolding off_together all_grown
together elapsed ms s long off old =
    let os : Orders = s.core.orders in
    rw (
      off_for_lem elapsed ms os.closes long off.0 old.0,
      off_for_lem elapsed ms os.opens long off.1 old.1,
      off_for_lem elapsed ms os.retracts long off.2 old.2,
      off_for_lem elapsed ms os.extends long off.3 old.3,
    )
    tt

-- A sample grows the age of what is off before and after it.
off_grows : (off off' : Bool) (age added : ℕ) → T (not off) → T (not off') → grown_or (not (beq off off')) age added ≡ min (age + added) oldest
off_grows false false age added h h' = refl
off_grows false true age added h h' = absurd h'
off_grows true off' age added h h' = absurd h

module _ (s : State) (reached : Reached s) (is_red : T (red s)) (ms : ℕ) (old : Old ms s.core.orders) (r : Row) where
  reached_next : Reached (next s r)
  reached_next = step reached r.0 r.1

  grows : (timer : Timer) → T (not (is_on timer s)) → T (not (is_on timer (next s r))) → ms ≤ age_of timer s
      → min (ms + accepted_at s r) oldest ≤ age_of timer (next s r)
  unfolding changes_at
  grows timer off off' h =
      rw (
        next_age timer s r (at_most timer s (ages_to_60000 s reached)),
        off_grows (is_on timer s) (is_on timer (next s r)) (age_of timer s) (accepted_at s r) off off',
      )
      (omega arith)

  old_next : Old (min (ms + accepted_at s r) oldest) (next s r).core.orders
  old_next =
      let off = four_off s reached is_red in
      let off' = four_off (next s r) reached_next (red_next s is_red r) in (
        grows of_close off.0 off'.0 old.0,
        grows of_open off.1 off'.1 old.1,
        grows of_retract off.2 off'.2 old.2,
        grows of_extend off.3 off'.3 old.3,
      )

  -- General_EV that is on after a sample has not had them off for long enough.
  on_is_early : (T (general_ev s) → ms < 1000) → T (general_ev (next s r)) → ms + accepted_at s r < 1000
  on_is_early before =
      at_sample (λ (t : State) (added : ℕ). T (general_ev t) → ms + added < 1000) s r
      (λ on.
      let elapsed : ℕ = elapsed_of s.stamp r.0 in
      let stops : Bool = off_together (all_grown elapsed s.core.orders) in
      let not_yet = (and_yes (general_ev s) (not stops) (subst T (accepted_general s is_red r.0 r.1) on)).1 in
      by_cases (leb 1000 (ms + elapsed)) (λ (long : Bool). ms + elapsed < 1000)
      (λ long. absurd (T_not stops not_yet (together elapsed ms s (leb→le 1000 (ms + elapsed) long) (four_off s reached is_red) old)))
      (nleb→lt 1000 (ms + elapsed)))
      (λ on. omega (arith, before on))

off_from :
    (s : State) → Reached s → T (red s) → (ms : ℕ) → Old ms s.core.orders → (T (general_ev s) → ms < 1000) →
    (rows : List Row) →
    1000 ≤ ms + accepted_in s rows →
    T (not (general_ev (after s rows)))
unfolding after accepted_in
off_from s reached is_red ms old early [] long = not_T (general_ev s) (λ on. omega (arith, early on))
off_from s reached is_red ms old early (r ∷ rs) long =
    off_from (next s r) (step reached r.0 r.1) (red_next s is_red r)
    (min (ms + accepted_at s r) oldest)
    (old_next s reached is_red ms old r)
    (λ on. omega (arith, on_is_early s reached is_red ms old r early on))
    rs
    (omega arith)

pub general_off_in_1000 : Always (GeneralOffIn 1000)
general_off_in_1000 s reached is_red rows long =
    off_from s reached is_red 0 (zero-le, zero-le, zero-le, zero-le) (λ on. lit< tt) rows (omega arith)
