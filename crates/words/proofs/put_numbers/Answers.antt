-- `words::put_numbers` meets its contract: piece by piece.
-- Assumes nothing.
use Rattle.texts.proofs.Lines.{put, and}
use Rattle.words.proofs.put_numbers.Goals as goal

pub returns : goal.returns
returns c =
    and (and (and (put c.put.ensures) (put c.put_number.ensures)) (put c.put-2.ensures))
    (put c.put_number-2.ensures)
