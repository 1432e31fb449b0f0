-- `plain::lines::put_count` meets its contract: an odd channel, nothing, and two that differed.
-- Assumes nothing.
use borrow.Author.Tests.{eq-eqb, ne_eqb}
use Rattle.texts.proofs.Lines.{nothing, put, and}
use Rattle.plain.specs.Plain.{of_count}
use Rattle.plain.proofs.lines.put_count.Goals as goal

pub returns-then-odd-ne0 : goal.returns-then-odd-ne0
unfolding of_count
returns-then-odd-ne0 c =
    rw (ne_eqb _ 0 c.if-odd-ne0.true) c.put_odd.ensures

pub returns-then-count-eq0 : goal.returns-then-count-eq0
unfolding of_count
returns-then-count-eq0 c = rw (eq-eqb _ 0 c.if-odd-ne0.false, eq-eqb _ 0 c.if-count-eq0.true) (nothing)

pub returns : goal.returns
unfolding of_count
returns c =
    rw (eq-eqb _ 0 c.if-odd-ne0.false, ne_eqb _ 0 c.if-count-eq0.false) (and (put c.put.ensures) c.put_samples.ensures)
