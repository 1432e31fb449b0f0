-- `plain::lines::order_line` meets its contract: name, on or off, age and LF.
-- Assumes nothing.
use Rattle.texts.proofs.Lines.{same, put, and}
use Rattle.plain.proofs.Texts.{order_text}
use Rattle.plain.proofs.lines.order_line.Goals as goal

pub returns : goal.returns
returns c =
    same (order_text _ c.args.o)
    (and (and (same c.word.ensures (put c.put.ensures)) (put c.put_on.ensures)) (and (put c.put_number.ensures) (put c.put-2.ensures)))
