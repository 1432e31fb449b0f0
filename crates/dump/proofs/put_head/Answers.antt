-- `dump::put_head` meets its contract: what every dump begins with, the values, and what follows them.
-- Assumes nothing.
use Rattle.texts.proofs.Lines.{put, and, same}
use Rattle.dump.specs.Dumps.{head_text}
use Rattle.dump.proofs.put_head.Goals as goal

pub returns : goal.returns
unfolding head_text
returns c = and (and c.put_opening.ensures c.put_values.ensures) (same c.closing.ensures (put c.put.ensures))
