-- `plain::lines::sensor_line` meets its contract: name, colon, voter, and what follows it.
-- Assumes nothing.
use Rattle.texts.proofs.Lines.{same, put, and}
use Rattle.plain.proofs.Texts.{sensor_text}
use Rattle.plain.proofs.lines.sensor_line.Goals as goal

pub returns : goal.returns
returns c =
    same (sensor_text _ c.args.v)
    (rw (← c.number.ensures)
    (and (and (same c.word.ensures (put c.put.ensures)) (put c.put-2.ensures)) (and (same c.word-2.ensures (put c.put-3.ensures)) c.put_held.ensures)))
