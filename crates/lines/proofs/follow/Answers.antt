-- `lines::follow`: a held CR is a byte of the row, and what follows goes behind it.
-- Assumes nothing.
use Rattle.std.proofs.Common.{arith, length, drop}
use Rattle.common.specs.Ascii.{cr}
use Rattle.lines.proofs.Steps.{no_lf, on_byte}
use Rattle.lines.proofs.follow.Goals as goal

pub returns : goal.returns
returns c =
    let a = c.args in
    let p = a.part.now in
    let o = no_lf cr p a.from (omega arith) c.if-part-from-eq-LF.false in
    rw (on_byte (length p) a.line.now a.len cr (drop a.from p) o (omega arith)) c.fill.ensures
