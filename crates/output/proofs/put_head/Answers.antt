-- `output::put_head` meets its contract: a number, a comma and a number.
-- Assumes nothing.
use Rattle.texts.proofs.Lines.{put, and}
use Rattle.output.proofs.put_head.Goals as goal

pub returns : goal.returns
returns c = and (put c.put_number.ensures) (and (put c.put.ensures) (put c.put_number-2.ensures))
