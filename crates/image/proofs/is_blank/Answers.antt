-- `image::is_blank` meets its contract: what is still to come stays the answer.
-- Assumes nothing.
use Rattle.std.proofs.Common.{sym, ap, ◌∙◌, arith, Bool, ◌&&◌}
use borrow.Author.Tests.{eq-eqb}
use Rattle.std.proofs.lemmas.Bool.{ne_eqb}
use Rattle.std.specs.Slice.Iter.{chunks_exact_rest}
use Rattle.image.specs.Faults.{is_blank}
use Rattle.image.proofs.Searching.{blank_turn, blank_end}
use Rattle.image.proofs.is_blank.Goals as goal

pub loop-bytes-preserved : goal.loop-bytes-preserved
loop-bytes-preserved c =
    let so = c.loop-bytes.invariant in
    let steps = c.in-Some.ensures.steps in
    let item = sym c.item.ensures ∙ c.if-item-ne0.false in (
      omega (arith, steps.0, so.2),
      tt,
      steps.0 ∙ so.2,
      so.3 ∙ ap is_blank steps.1.0 ∙ blank_turn _ _ (steps.1.1 ∙ so.2) ∙ ap (λ (b : Bool). b && is_blank (chunks_exact_rest c.next.new.self)) (eq-eqb _ _ item),
    )

pub returns-then-item-ne0 : goal.returns-then-item-ne0
returns-then-item-ne0 c =
    let so = c.loop-bytes.invariant in
    let steps = c.in-Some.ensures.steps in
    sym (so.3 ∙ ap is_blank steps.1.0 ∙ blank_turn _ _ (steps.1.1 ∙ so.2) ∙ ap (λ (b : Bool). b && is_blank (chunks_exact_rest c.next.new.self)) (ne_eqb _ _ (λ e. c.if-item-ne0.true (c.item.ensures ∙ e))))

pub returns : goal.returns
returns c =
    let so = c.loop-bytes.invariant in
    let steps = c.in-None.ensures.steps in
    sym (so.3 ∙ blank_end _ (omega (arith, steps.1.0, so.2)))
