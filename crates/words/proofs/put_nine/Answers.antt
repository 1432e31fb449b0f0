-- `words::put_nine` meets its contract: piece by piece.
-- Assumes nothing.
use Rattle.texts.proofs.Lines.{put, and}
use Rattle.words.specs.Messages.{nine_text}
use Rattle.words.proofs.put_nine.Goals as goal

pub returns : goal.returns
unfolding nine_text
returns c =
    and (and (and (and (put c.put.ensures) (put c.put_number.ensures)) (put c.put-2.ensures)) (put c.put_number-2.ensures))
    (put c.put-3.ensures)
