-- `trace::read_row`: where another label is due, the buffer is as it was.
-- Assumes nothing.
use Rattle.std.proofs.Common.{sym, ◌∙◌}
use Rattle.trace.proofs.Forms.{by_form, not_due}
use Rattle.trace.proofs.read_row.Goals as goal

pub returns-then-ne : goal.returns-then-ne
returns-then-ne c =
    let a = c.args in
    let form = c.in-Some.form in
    sym
    (by_form a.row.now a.due a.sample.now c.if-sample-ne54.false c.if-row-gt-LONGEST_ROW.false c.in-Some.ensures
    ∙ rw (not_due a.due (record { label = form.row.label; stamp = form.row.stamp; sample = form.sample }) (sym c.if-ne.ensures)))
