-- `commands::messages::put_error` meets its contract: the word, and the number.
-- Assumes nothing.
use Rattle.texts.proofs.Lines.{put, and}
use Rattle.commands.proofs.messages.put_error.Goals as goal

pub returns : goal.returns
returns c = and (put c.put.ensures) (put c.put_number.ensures)
