-- `trace::field` meets its contract: the part up to the first comma is the field.
-- Assumes nothing.
use Rattle.trace.proofs.Fields.{up_to, is_part}
use Rattle.trace.proofs.field.Goals as goal

pub returns : goal.returns
returns c =
    let a = c.args in
    is_part a.row.ref_ptr a.row.now a.at _ c.min-start.ensures
    (up_to a.row.now a.at _ _ c.min-start.ensures c.find-end.ensures.place)
