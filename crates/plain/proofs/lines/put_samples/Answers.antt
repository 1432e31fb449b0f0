-- `plain::lines::put_samples` meets its contract: the number, and one sample or several.
-- Assumes nothing.
use borrow.Author.Tests.{eq-eqb, ne_eqb}
use Rattle.texts.proofs.Lines.{put, and}
use Rattle.plain.specs.Plain.{in_samples}
use Rattle.plain.proofs.lines.put_samples.Goals as goal

pub returns-then-n-eq1 : goal.returns-then-n-eq1
unfolding in_samples
returns-then-n-eq1 c =
    rw (eq-eqb _ 1 c.if-n-eq1.true) (and (put c.put_number.ensures) (put c.put.ensures))

pub returns : goal.returns
unfolding in_samples
returns c =
    rw (ne_eqb _ 1 c.if-n-eq1.false) (and (put c.put_number.ensures) (put c.put-2.ensures))
