-- `dump::put_time` meets its contract: `#`, the number and LF, each after the one before.
-- Assumes nothing.
use Rattle.texts.proofs.Lines.{put, and}
use Rattle.dump.proofs.put_time.Goals as goal

pub returns : goal.returns
returns c = and (and (put c.put.ensures) (put c.put_number.ensures)) (put c.put-2.ensures)
