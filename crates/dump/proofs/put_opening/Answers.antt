-- `dump::put_opening` meets its contract: the lines before the declarations, these, and the lines behind them.
-- Assumes nothing.
use Rattle.texts.proofs.Lines.{put, and}
use Rattle.dump.specs.Dumps.{opening_text}
use Rattle.dump.proofs.put_opening.Goals as goal

pub returns : goal.returns
unfolding opening_text
returns c = and (and (put c.put.ensures) c.put_declarations.ensures) (put c.put-2.ensures)
