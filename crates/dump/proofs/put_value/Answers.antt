-- `dump::put_value` meets its contract: three bytes.
-- Assumes nothing.
use Rattle.texts.proofs.Lines.{put, same}
use Rattle.dump.proofs.put_value.Goals as goal

pub returns : goal.returns
returns c = same (simp c.on_off.ensures) (put c.put.ensures)
