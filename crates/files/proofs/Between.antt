-- Demand 3 of the rows of a file: the rows from one that accepts its sample on are a run of the controller over the samples that were
-- accepted.
-- Assumes nothing.
use Prim.Native.Nat.{ℕ}
use mathlib.Core.Bool.{Bool, true, false, ◌&&◌}
use mathlib.Core.List.{List, [], ◌∷◌}
use mathlib.Core.Path.{◌≡◌, sym, ap, subst, ◌∙◌}
use borrow.Author.Tests.{eq-eqb}
use lib.Dec.{T}
use Rattle.controller.specs.declared.State.{State}
use Rattle.controller.specs.Answers.{Answer}
use Rattle.controller.specs.Lamps.{lights_of, shown_of}
use Rattle.controller.specs.Steps.{limit}
use Rattle.controller.specs.Samples.{Row, after}
use Rattle.laws.specs.Bounds.{bound}
use Rattle.laws.specs.Reached.{Reached}
use Rattle.settling.specs.Runs.{next, is_taken, Absorbers, held_as, held, Held, elapsed_in, elapsed_since}
use Rattle.settling.specs.Settled.{settled, settled_on, SettledWithin, UnsettledIsEarly, is_settled, OfEveryRun}
use Rattle.settling.proofs.Demand3.{demand_3, unsettled_is_early}
use Rattle.files.specs.Told.{Told}
use Rattle.files.specs.RowLaws.{OwnRow, AnsweredBy, AnsweredRight}
use Rattle.files.specs.Stretches.{elapsed_over, state_after}
use Rattle.files.specs.Between.{Accepts, HeldAs, OfEveryFile}
use Rattle.files.proofs.Stretches.{own_step, AllTaken, Run, run_takes, first_fine, stretch_runs}

-- ---- Handle and absorbers are held

both_hold : (a b : Bool) → T a → T b → T (a && b)
both_hold true true p q = tt
both_hold true false p q = absurd q
both_hold false b p q = absurd p

is_true : (t : Bool) → t ≡ true → T t
is_true t e = rw e tt

-- Handle and absorbers are as they are to be.
abbrev As : Bool → Absorbers → State → Type 0
As down these s = T (held_as down these s)

all_held : (down : Bool) (these : Absorbers) (s : State) (samples : List Row) → AllTaken (As down these) s samples → Held down these s samples
unfolding held
all_held down these s [] all = tt
all_held down these s (r ∷ rs) all =
    both_hold (is_taken s r && held_as down these (next s r)) (held down these (next s r) rs)
    (both_hold (is_taken s r) (held_as down these (next s r)) (is_true (is_taken s r) all.0) all.1)
    (all_held down these (next s r) rs all.2)

-- ---- The first row accepts its sample

module _ (first : Told) (accepts : Accepts first) where
  first_row : AnsweredRight first → OwnRow first accepts.0.0 0
  first_row right = subst (AnsweredBy first) accepts.0.1 right

  first_taken : (row : OwnRow first accepts.0.0 0) → is_taken first.before (row.stamp, row.sample) ≡ true
  unfolding is_taken
  first_taken row = eq-eqb _ 0 (sym (ap (λ (a : Answer). a.refusal) (own_step row.own accepts.1)))

  first_next : (row : OwnRow first accepts.0.0 0) → first.after ≡ next first.before (row.stamp, row.sample)
  first_next row = ap (λ (a : Answer). a.state) (own_step row.own accepts.1)

  -- What holds of every run of accepted samples holds of it and of the rows behind it.
  said : (Says : ℕ → Bool → Type 0) → OfEveryRun Says
      → OwnRow first accepts.0.0 0
      → Reached first.before
      → (down : Bool) (these : Absorbers) (rest : List Told) (samples : List Row)
      → HeldAs down these first
      → Run (As down these) first.after rest samples
      → Says (elapsed_over rest) (is_settled down (state_after first.after rest))
  unfolding elapsed_since state_after
  said Says of_runs row reached down these rest samples is others =
      let r : Row = (row.stamp, row.sample) in
      let run = run_takes (As down these) first rest samples others r (first_taken row) (first_next row) is in
      let time : elapsed_since first.before (r ∷ samples) ≡ elapsed_over rest =
      ap (λ (s : State). elapsed_in s samples) (sym (first_next row)) ∙ others.time in
      subst (λ (s : State). Says (elapsed_over rest) (is_settled down s)) run.same
      (subst (λ (n : ℕ). Says n (is_settled down (after first.before (r ∷ samples)))) time
      (of_runs first.before reached down these r samples (all_held down these first.before (r ∷ samples) run.taken)))

-- So of the rows of every file: what a row shows is what its state has.
of_every_file : (Says : ℕ → Bool → Type 0) → OfEveryRun Says → OfEveryFile Says
unfolding settled settled_on shown_of lights_of
of_every_file Says of_runs state reached input first rest stretch accepts down these is =
    let fine = first_fine state reached input first rest stretch in
    let others = stretch_runs state reached input first rest stretch (As down these) 0 accepts.0 is.1 in
    said first accepts Says of_runs (first_row first accepts fine.right) fine.from down these rest others.0 is.0 others.1

-- ---- Demand 3

-- Once the accepted elapsed times since a row that accepts its sample add up to 24,796 ms, with the voted handle as it was there, and with
-- the handle up the absorbers, a row shows red, or doors CLOSED and gears where the handle asks, or, up on ground, EXTENDED.
pub demand_3_of_a_file : OfEveryFile (SettledWithin bound)
demand_3_of_a_file = of_every_file (SettledWithin bound) demand_3

-- And what is stronger.
pub unsettled_is_early_in_a_file : OfEveryFile (UnsettledIsEarly limit bound)
unsettled_is_early_in_a_file = of_every_file (UnsettledIsEarly limit bound) unsettled_is_early
