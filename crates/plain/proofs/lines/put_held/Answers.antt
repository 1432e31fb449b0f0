-- `plain::lines::put_held` meets its contract: value, count and LF.
-- Assumes nothing.
use Rattle.texts.proofs.Lines.{put, and}
use Rattle.plain.specs.Plain.{of_held, held_line}
use Rattle.plain.proofs.lines.put_held.Goals as goal

pub returns : goal.returns
unfolding of_held held_line
returns c =
    let value = and (put c.put.ensures) (put c.put-2.ensures) in
    rw (← c.value.ensures, ← c.on_off.ensures) (and (and value c.put_count.ensures) (put c.put-3.ensures))
