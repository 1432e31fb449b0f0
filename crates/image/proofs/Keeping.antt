-- The tests over a controller say what the rules of requests K3 and K6 say, both ways; and no rule speaks of the stamp.
-- Assumes nothing.
use Prim.Native.Nat.{ℕ}
use mathlib.Core.Bool.{Bool, true, false, not, ◌&&◌}
use mathlib.Core.List.{List, [], ◌∷◌}
use mathlib.Core.Path.{◌≡◌, refl}
use lib.Dec.{T, eqb, eqb→eq, T_not, not_T}
use borrow.Author.Tests.{eq-eqb}
use mir.Facts.{and_yes, yes_and}
use Rattle.common.specs.Lists.{all, Each}
use Rattle.common.specs.Tests.{implies, every}
use Rattle.common.proofs.Tests.{then, so}
use Rattle.common.proofs.Each.{each_so, each_of_both, all_each, each_all}
use Rattle.voter.specs.declared.Voter.{Voter}
use Rattle.voter.specs.Counts.{odd_with_count, no_odd_of_two, none_of_invalid, KeepsCountRules}
use Rattle.sensors.proofs.Counting.{tests_keep_counts, keeps_odd_with_count, keeps_no_odd_of_two, keeps_none_of_invalid}
use Rattle.sequence.specs.declared.Doors.{Doors}
use Rattle.sequence.specs.declared.Doors.TheVariants.{Closed, Opening, Open, Closing}
use Rattle.orders.specs.declared.Wanted.{Wanted}
use Rattle.orders.specs.Timing.{wanted_of}
use Rattle.sequence.specs.Places.{are_closed, are_open}
use Rattle.controller.specs.declared.State.{State}
use Rattle.controller.specs.Start.{started_at}
use Rattle.controller.specs.Stages.{anomaly}
use Rattle.controller.specs.Shows.{general_ev, close_ev, open_ev, retract_ev, extend_ev, doors_of, red, invalid_sensor}
use Rattle.image.specs.Rules.{rules, rules_hold}
use Rattle.image.specs.Conditions.{OpenDoorsHaveGeneral, KeepsRules}

-- ---- Tests

AllHold : List Bool → Type 0
AllHold [] = Unit {0}
AllHold (test ∷ tests) = T test × AllHold tests

all_hold : (tests : List Bool) → T (every tests) → AllHold tests
unfolding AllHold
all_hold [] h = tt
all_hold (test ∷ tests) h = let parts = and_yes test (every tests) h in (parts.0, all_hold tests parts.1)

hold_all : (tests : List Bool) → AllHold tests → T (every tests)
unfolding AllHold
hold_all [] h = tt
hold_all (test ∷ tests) h = yes_and test (every tests) h.0 (hold_all tests h.1)

-- ---- Doors, and a cause

pub are_open_lem : (doors : Doors) → T (are_open doors) → doors ≡ Open
are_open_lem Closed h = absurd h
are_open_lem Opening h = absurd h
are_open_lem Open h = refl
are_open_lem Closing h = absurd h

pub are_out : (doors : Doors) → ¬ (doors ≡ Closed) → T (not (are_closed doors))
are_out Closed h = absurd (h refl)
are_out Opening h = tt
are_out Open h = tt
are_out Closing h = tt

not_closed_lem : (doors : Doors) → T (not (are_closed doors)) → ¬ (doors ≡ Closed)
not_closed_lem doors h e = T_not (are_closed doors) h (rw e tt)

module _ (s : State) where
  pub no_red : s.core.cause ≡ 0 → T (not (red s))
  unfolding anomaly
  no_red e = rw (eq-eqb s.core.cause 0 e) tt

  no_cause : T (not (red s)) → s.core.cause ≡ 0
  unfolding anomaly
  no_cause h = eqb→eq s.core.cause 0 (not_not (eqb s.core.cause 0) h)
    where
      not_not : (b : Bool) → T (not (not b)) → T b
      not_not true h = tt
      not_not false h = h

  has_cause : T (red s) → ¬ (s.core.cause ≡ 0)
  has_cause h e = T_not (red s) (no_red e) h

  has_red : ¬ (s.core.cause ≡ 0) → T (red s)
  unfolding anomaly
  has_red h = not_T (eqb s.core.cause 0) (λ e. h (eqb→eq s.core.cause 0 e))

  out_general : OpenDoorsHaveGeneral s → T (not (are_closed (doors_of s)) && not (red s)) → T (general_ev s)
  out_general has h =
      let parts = and_yes (not (are_closed (doors_of s))) (not (red s)) h in
      has (not_closed_lem (doors_of s) parts.0) (no_cause parts.1)

-- ---- One order

on_wanted : (on wanted general : Bool) → T (implies on (wanted && general)) → T on → T wanted
on_wanted on wanted general h o = (and_yes wanted general (then on (wanted && general) h o)).0

on_general : (on wanted general : Bool) → T (implies on (wanted && general)) → T on → T general
on_general on wanted general h o = (and_yes wanted general (then on (wanted && general) h o)).1

on_both : (on wanted general : Bool) → (T on → T wanted) → (T on → T general) → T (implies on (wanted && general))
on_both on wanted general w g = so on (wanted && general) (λ o. yes_and wanted general (w o) (g o))

-- ---- Odd channels and counts

module _ (vs : List Voter) where
  all_keep : T (all odd_with_count vs) → T (all no_odd_of_two vs) → T (all none_of_invalid vs) → Each KeepsCountRules vs
  all_keep with_all with_two with_none =
      each_of_both
      (λ (v : Voter). T (odd_with_count v)) (λ (v : Voter). T (no_odd_of_two v) × T (none_of_invalid v)) KeepsCountRules
      (λ v one others. tests_keep_counts v one others.0 others.1) vs
      (all_each odd_with_count vs with_all)
      (each_of_both
      (λ (v : Voter). T (no_odd_of_two v)) (λ (v : Voter). T (none_of_invalid v)) (λ (v : Voter). T (no_odd_of_two v) × T (none_of_invalid v))
      (λ v one other. (one, other)) vs
      (all_each no_odd_of_two vs with_two) (all_each none_of_invalid vs with_none))

  all_hold_of : (test : Voter → Bool) → ((v : Voter) → KeepsCountRules v → T (test v)) → Each KeepsCountRules vs → T (all test vs)
  all_hold_of test says keep = each_all test vs (each_so KeepsCountRules (λ (v : Voter). T (test v)) says vs keep)

-- ---- The rules

module _ (s : State) where
  -- Where every test holds the rules are kept ..
  pub tests_keep : T (rules_hold s) → KeepsRules s
  unfolding rules_hold rules AllHold
  tests_keep h =
      let test = all_hold (rules s) h in
      let wanted : Wanted = wanted_of s.core.place (red s) in
      let general : Bool = general_ev s in
      let closing = test.1.0 in
      let opening = test.1.1.0 in
      let retracting = test.1.1.1.0 in
      let extending = test.1.1.1.1.0 in
      let out : Bool = not (are_closed (doors_of s)) in
      record {
        moving_have_open = test.0;
        on_is_wanted = (
          on_wanted (close_ev s) wanted.closes general closing,
          on_wanted (open_ev s) wanted.opens general opening,
          on_wanted (retract_ev s) wanted.retracts general retracting,
          on_wanted (extend_ev s) wanted.extends general extending,
        );
        on_has_general = (
          on_general (close_ev s) wanted.closes general closing,
          on_general (open_ev s) wanted.opens general opening,
          on_general (retract_ev s) wanted.retracts general retracting,
          on_general (extend_ev s) wanted.extends general extending,
        );
        open_have_general =
            λ not_closed none.
            then (out && not (red s)) general test.1.1.1.1.1.0
            (yes_and out (not (red s)) (are_out (doors_of s) not_closed) (no_red s none));
        invalid_has_cause = λ invalid. has_cause s (then (invalid_sensor s) (red s) test.1.1.1.1.1.1.0 invalid);
        counts_keep =
            (let counts = test.1.1.1.1.1.1.1 in
            all_keep s.voters counts.0 counts.1.0 counts.1.1.0);
      }

  -- .. and where they are kept every test holds.
  pub keeps_tests : KeepsRules s → T (rules_hold s)
  unfolding rules_hold rules AllHold
  keeps_tests keeps =
      let wanted : Wanted = wanted_of s.core.place (red s) in
      let general : Bool = general_ev s in
      let is = keeps.on_is_wanted in
      let has = keeps.on_has_general in
      let out : Bool = not (are_closed (doors_of s)) in
      let closing = on_both (close_ev s) wanted.closes general is.0 has.0 in
      let opening = on_both (open_ev s) wanted.opens general is.1 has.1 in
      let retracting = on_both (retract_ev s) wanted.retracts general is.2 has.2 in
      let extending = on_both (extend_ev s) wanted.extends general is.3 has.3 in
      let outside = so (out && not (red s)) general (out_general s keeps.open_have_general) in
      let invalid = so (invalid_sensor s) (red s) (λ i. has_red s (keeps.invalid_has_cause i)) in
      let counts = keeps.counts_keep in
      let with_count = all_hold_of s.voters odd_with_count keeps_odd_with_count counts in
      let of_two = all_hold_of s.voters no_odd_of_two keeps_no_odd_of_two counts in
      let of_invalid = all_hold_of s.voters none_of_invalid keeps_none_of_invalid counts in
      hold_all (rules s)
      (keeps.moving_have_open, (closing, (opening, (retracting, (extending, (outside, (invalid, (with_count, (of_two, (of_invalid, tt))))))))))

-- ---- The stamp

-- The rules are kept at any other stamp too.
pub started_keeps : (stamp : ℕ) (s : State) → KeepsRules s → KeepsRules (started_at stamp s)
unfolding started_at
started_keeps stamp s keeps =
    record {
      moving_have_open = keeps.moving_have_open;
      on_is_wanted = keeps.on_is_wanted;
      on_has_general = keeps.on_has_general;
      open_have_general = keeps.open_have_general;
      invalid_has_cause = keeps.invalid_has_cause;
      counts_keep = keeps.counts_keep;
    }
