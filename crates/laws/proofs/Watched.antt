-- The causes of one accepted step: an invalid sensor has a cause, since cause 13 is looked at in the step that votes it; and there
-- are thirteen causes. Of the voter only `fresh_is_valid` is used.
-- Assumes nothing.
use Prim.Native.Nat.{ℕ, suc, ◌+◌, ◌≤◌, zero-le}
use native.Mathlib.Omega.{arith}
use mathlib.Core.Bool.{Bool, true, false, cond, not}
use mathlib.Core.List.{List, [], ◌∷◌, ◌++◌}
use mathlib.Core.Path.{◌≡◌}
use lib.Dec.{T, eqb, T_not}
use lib.ListN.{length, take}
use borrow.Author.Tests.{eq-eqb}
use Rattle.common.specs.Lists.{some}
use Rattle.common.specs.Lowest.{lowest}
use Rattle.voter.proofs.Laws.{fresh_is_valid}
use Rattle.orders.specs.declared.Orders.{Orders}
use Rattle.monitors.specs.declared.Sight.{Sight}
use Rattle.monitors.specs.Causes.{causes, cause_of}
use Rattle.controller.specs.declared.Core.{Core}
use Rattle.controller.specs.declared.State.{State}
use Rattle.controller.specs.Votes.{some_invalid, sight_of}
use Rattle.controller.specs.Start.{fresh_voters}
use Rattle.controller.specs.Stages.{anomaly, core_monitors, ages_stage, vote_stage, accepted}
use Rattle.image.specs.Items.{last_cause}
use Rattle.image.specs.Conditions.{InvalidSensorHasCause, CausesTo13}
use Rattle.common.proofs.Tests.{by_cases}
use Rattle.laws.proofs.Stages.{stages, core_stages}

-- ---- The first of some numbered tests

-- Its number is at most the last one's.
at_most : (n : ℕ) (tests : List Bool) → lowest (suc n) tests ≤ n + length tests
at_most n [] = zero-le
at_most n (true ∷ tests) = omega arith
at_most n (false ∷ tests) = omega (arith, at_most (suc n) tests)

-- It is none only if the last does not hold.
last_holds : (n : ℕ) (tests : List Bool) (last : Bool) → T last → ¬ (lowest (suc n) (tests ++ last ∷ []) ≡ 0)
last_holds n [] true h e = omega arith
last_holds n [] false h e = h
last_holds n (true ∷ tests) last h e = omega arith
last_holds n (false ∷ tests) last h e = last_holds (suc n) tests last h e

-- ---- One step

cause_to_13 : (os : Orders) (since : ℕ) (see : Sight) → cause_of os since see ≤ last_cause
unfolding causes cause_of
cause_to_13 os since see = at_most 0 (causes os since see)

invalid_is_a_cause : (os : Orders) (since : ℕ) (see : Sight) → T see.invalid → ¬ (cause_of os since see ≡ 0)
unfolding causes cause_of
invalid_is_a_cause os since see h = last_holds 0 (take 12 (causes os since see)) see.invalid h

-- A latched cause: the old one if there was one, else the new.
latched_to_13 : (is_old : Bool) (old new : ℕ) → old ≤ last_cause → new ≤ last_cause → cond is_old old new ≤ last_cause
latched_to_13 true old new o n = o
latched_to_13 false old new o n = n

latched_is_a_cause : (old new : ℕ) → ¬ (new ≡ 0) → ¬ (cond (not (eqb old 0)) old new ≡ 0)
latched_is_a_cause old new h =
    by_cases (not (eqb old 0)) (λ (is_old : Bool). ¬ (cond is_old old new ≡ 0)) (λ is_old e. T_not (eqb old 0) is_old (rw (eq-eqb old 0 e) tt)) (λ is_new. h)

monitors_to_13 : (see : Sight) (c : Core) → c.cause ≤ last_cause → (core_monitors see c).cause ≤ last_cause
unfolding core_monitors
monitors_to_13 see c before = latched_to_13 (anomaly c) c.cause _ before (cause_to_13 c.orders c.since see)

monitors_have_cause : (see : Sight) (c : Core) → T see.invalid → ¬ ((core_monitors see c).cause ≡ 0)
unfolding core_monitors anomaly
monitors_have_cause see c h = latched_is_a_cause c.cause _ (invalid_is_a_cause c.orders c.since see h)

-- What the monitors look at in a step.
abbrev heard : State → ℕ → List ℕ → State
heard s stamp bytes = vote_stage bytes (ages_stage stamp s)

pub accepted_to_13 : (s : State) (stamp : ℕ) (bytes : List ℕ) → CausesTo13 s → CausesTo13 (accepted s stamp bytes)
unfolding stages core_stages
accepted_to_13 s stamp bytes before = monitors_to_13 (sight_of (heard s stamp bytes).voters) (heard s stamp bytes).core before

pub accepted_has_cause : (s : State) (stamp : ℕ) (bytes : List ℕ) → InvalidSensorHasCause (accepted s stamp bytes)
unfolding sight_of stages core_stages
accepted_has_cause s stamp bytes h = monitors_have_cause (sight_of (heard s stamp bytes).voters) (heard s stamp bytes).core h

-- ---- A fresh start

pub fresh_all_valid : some_invalid fresh_voters ≡ false
unfolding some some_invalid fresh_voters
fresh_all_valid = simp fresh_is_valid
