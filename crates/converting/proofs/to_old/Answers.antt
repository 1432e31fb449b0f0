-- `converting::to_old` meets its contract: without room, refused as in loading, 12, and converted.
-- Assumes nothing.
use Rattle.std.proofs.Common.{◌≡◌, rules, Result, Err, refl, sym, ap, ◌∙◌}
use Rattle.refusals.specs.declared.Refusal.{Refusal}
use Rattle.refusals.specs.Answers.{code_of}
use Rattle.refusals.proofs.Laws.{no_zero}
use Rattle.controller.specs.Start.{fresh_of}
use Rattle.converting.specs.Converting.{to_old_of}
use Rattle.converting.proofs.Exact.{too_short}
use Rattle.converting.proofs.Meeting.{old_refused, old_counted, old_converted}
use Rattle.converting.proofs.to_old.Goals as goal

pub returns-then-out-lt-OLD : goal.returns-then-out-lt-OLD
unfolding to_old_of
returns-then-out-lt-OLD c = sym (too_short _ _ _ _ c.if-out-lt-OLD.true)

pub returns-in_err-state : goal.returns-in_err-state
returns-in_err-state c =
    let a = c.args in
    let refusal = c.in_err-state.field-0.0 in
    let told : c.from_residual.result ≡ Err refusal = search rules in
    ap (λ (r : Result (Unit {0}) Refusal). (code_of r, a.out.now)) told
    ∙ sym (old_refused a.image.now a.out.now (fresh_of 0) _ c.if-out-lt-OLD.false (c.in_err-state.ensures (fresh_of 0)) (no_zero refusal))

pub returns-then-some_count_runs : goal.returns-then-some_count_runs
returns-then-some_count_runs c =
    let a = c.args in
    let runs = sym c.some_count_runs.ensures ∙ c.if-some_count_runs.true in
    sym (old_counted a.image.now a.out.now (fresh_of 0) _ c.if-out-lt-OLD.false (c.in_ok-state.ensures (fresh_of 0)) refl runs)

pub returns : goal.returns
returns c =
    let a = c.args in
    let none = sym c.some_count_runs.ensures ∙ c.if-some_count_runs.false in
    sym (old_converted a.image.now a.out.now (fresh_of 0) _ c.if-out-lt-OLD.false (c.in_ok-state.ensures (fresh_of 0)) refl none _ _ c.put_old.ensures)
