-- `commands::messages::put_of_file` meets its contract: the file, and what is said of it.
-- Assumes nothing.
use Rattle.texts.proofs.Lines.{put, and}
use Rattle.commands.specs.Messages.{of_file}
use Rattle.commands.proofs.messages.put_of_file.Goals as goal

pub returns : goal.returns
unfolding of_file
returns c = and (and (put c.put.ensures) (put c.put-2.ensures)) (put c.put-3.ensures)
