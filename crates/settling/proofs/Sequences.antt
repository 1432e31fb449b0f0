-- Demand 3 over any list of samples, refused ones among them: a list comes to what its accepted samples come to.
-- Assumes nothing.
use mathlib.Core.Bool.{Bool, true, false, cond}
use mathlib.Core.List.{List, [], ◌∷◌}
use mathlib.Core.Path.{◌≡◌, refl, sym, ap, subst, ◌∙◌}
use Prim.Native.Nat.{ℕ}
use native.Mathlib.Omega.{arith}
use borrow.Author.Tests.{eqb-false}
use Rattle.controller.specs.declared.State.{State}
use Rattle.controller.specs.Steps.{limit, step_of}
use Rattle.controller.specs.Samples.{Row, after}
use Rattle.controller.proofs.Refusals.{refused_stays}
use Rattle.laws.specs.Bounds.{bound_for, bound}
use Rattle.settling.specs.Runs.{next, is_taken, Held, elapsed_since}
use Rattle.settling.specs.Settled.{SettledWithin, UnsettledIsEarly, is_settled, OfEveryRun}
use Rattle.settling.specs.Sequences.{taken_of, OfEverySequence}
use Rattle.settling.proofs.Demand3.{demand_3, unsettled_is_early}

-- A sample that is not accepted leaves the state.
stays : (s : State) (r : Row) → is_taken s r ≡ false → next s r ≡ s
unfolding is_taken
stays s r e = refused_stays s r.0 r.1 (eqb-false (step_of s r.0 r.1).refusal 0 e)

-- So the accepted ones alone come to the same state.
pub after_taken : (s : State) (rows : List Row) → after s (taken_of s rows) ≡ after s rows
unfolding after taken_of
after_taken s [] = refl
after_taken s (r ∷ rs) = by (is_taken s r) refl (after_taken (next s r) rs) where
  by : (t : Bool) → is_taken s r ≡ t
      → after (next s r) (taken_of (next s r) rs) ≡ after (next s r) rs
      → after s (cond t (r ∷ taken_of (next s r) rs) (taken_of (next s r) rs)) ≡ after (next s r) rs
  by true e others = others
  by false e others = ap (λ (t : State). after t (taken_of (next s r) rs)) (sym (stays s r e)) ∙ others

-- What is said of every run of accepted samples, and of any state where none was accepted, is said of every list.
of_every_sequence : (Says : ℕ → Bool → Type 0) → ((at_last : Bool) → Says 0 at_last) → OfEveryRun Says → OfEverySequence Says
unfolding elapsed_since
of_every_sequence Says none of_runs s reached down these rows stays =
    subst (λ (t : State). Says (elapsed_since s (taken_of s rows)) (is_settled down t)) (after_taken s rows) (by (taken_of s rows) stays) where
      by : (taken : List Row) → Held down these s taken → Says (elapsed_since s taken) (is_settled down (after s taken))
      by [] held = none (is_settled down (after s []))
      by (first ∷ rest) held = of_runs s reached down these first rest held

-- Demand 3: once the accepted elapsed times since the first accepted sample add up to 24,796 ms, red is latched or it is settled.
pub demand_3_of_any_samples : OfEverySequence (SettledWithin bound)
unfolding bound_for
demand_3_of_any_samples = of_every_sequence (SettledWithin bound) (λ at_last late. absurd (omega arith)) demand_3

-- And what is stronger.
pub unsettled_is_early_of_any_samples : OfEverySequence (UnsettledIsEarly limit bound)
unfolding bound_for
unsettled_is_early_of_any_samples = of_every_sequence (UnsettledIsEarly limit bound) (λ at_last unsettled. omega arith) unsettled_is_early
