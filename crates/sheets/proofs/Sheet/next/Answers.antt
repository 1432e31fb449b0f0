-- `sheets::Sheet::next` meets its contract: no more is used than there is.
-- Assumes nothing.
use Rattle.std.proofs.Common.{replicate, sym, refl, length-take-le}
use Rattle.dump.specs.Wires.{wires}
use Rattle.sheets.proofs.Filling.{within}
use Rattle.sheets.proofs.Sheet.next.Goals as goal

pub slice_bounds-line_behind-end : goal.slice_bounds-line_behind-end
slice_bounds-line_behind-end c =
    let a = c.args in
    sym (length-take-le c.in-Ok.took.used a.rest.now (within a.self.reader a.rest.now (replicate wires 0) refl c.in-Ok.ensures))

pub slice_bounds-line_behind-end-in-Err : goal.slice_bounds-line_behind-end-in-Err
slice_bounds-line_behind-end-in-Err c =
    let a = c.args in
    sym (length-take-le c.in-Err.refused.used a.rest.now (within a.self.reader a.rest.now (replicate wires 0) refl c.in-Err.ensures))
