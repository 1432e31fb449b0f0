-- `commands::conversions::put_told` meets its contract: piece by piece.
-- Assumes nothing.
use Rattle.texts.proofs.Lines.{put, and}
use Rattle.commands.specs.Words.{converted_text}
use Rattle.commands.proofs.conversions.put_told.Goals as goal

pub returns : goal.returns
unfolding converted_text
returns c = and (and (and (put c.put.ensures) c.put_form.ensures) (put c.put-2.ensures)) (put c.put-3.ensures)
