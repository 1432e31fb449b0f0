-- `dump::put_declaration` meets its contract: the code, the name, and what stands before, between and behind them.
-- Assumes nothing.
use Rattle.texts.proofs.Lines.{put, and}
use Rattle.dump.specs.Dumps.{declaration}
use Rattle.dump.proofs.put_declaration.Goals as goal

pub returns : goal.returns
unfolding declaration
returns c = and (and (and (put c.put.ensures) (put c.put-2.ensures)) (put c.put_name.ensures)) (put c.put-3.ensures)
