-- `commands::images::put_told` meets its contract: piece by piece.
-- Assumes nothing.
use Rattle.texts.proofs.Lines.{put, and}
use Rattle.commands.specs.Words.{saved_text}
use Rattle.commands.proofs.images.put_told.Goals as goal

pub returns : goal.returns
unfolding saved_text
returns c = and (and (and (put c.put.ensures) (put c.put-2.ensures)) (put c.put_number.ensures)) (put c.put-3.ensures)
