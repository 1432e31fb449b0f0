-- `converting::to_new` meets its contract: without room, refused, and converted.
-- Assumes nothing.
use Rattle.std.proofs.Common.{◌≡◌, rules, Result, Err, refl, sym, ap, ◌∙◌}
use Rattle.refusals.specs.declared.Refusal.{Refusal}
use Rattle.refusals.specs.Answers.{code_of}
use Rattle.refusals.proofs.Laws.{no_zero}
use Rattle.controller.specs.Start.{fresh_of}
use Rattle.converting.specs.Converting.{to_new_of}
use Rattle.converting.proofs.Exact.{too_short}
use Rattle.converting.proofs.Meeting.{new_refused, new_converted}
use Rattle.converting.proofs.to_new.Goals as goal

pub returns-then-out-lt-NEW : goal.returns-then-out-lt-NEW
unfolding to_new_of
returns-then-out-lt-NEW c = sym (too_short _ _ _ _ c.if-out-lt-NEW.true)

pub returns-in_err-load : goal.returns-in_err-load
returns-in_err-load c =
    let a = c.args in
    let refusal = c.in_err-load.field-0.0 in
    let told : c.from_residual.result ≡ Err refusal = search rules in
    ap (λ (r : Result (Unit {0}) Refusal). (code_of r, a.out.now)) told
    ∙ sym (new_refused a.image.now a.out.now (fresh_of 0) _ c.if-out-lt-NEW.false (c.in_err-load.ensures (fresh_of 0)) (no_zero refusal))

pub returns : goal.returns
returns c = sym (new_converted c.args.image.now c.args.out.now (fresh_of 0) _ c.if-out-lt-NEW.false (c.in_ok-load.ensures (fresh_of 0)) refl _ _ c.put_new.ensures)
