-- `words::put_said` meets its contract: the name, a colon and a space, what there is to say, and the end of the line.
-- Assumes nothing.
use Rattle.texts.proofs.Lines.{put, and}
use Rattle.words.specs.Messages.{said_text}
use Rattle.words.proofs.put_said.Goals as goal

pub returns : goal.returns
unfolding said_text
returns c =
    and (and (and (put c.put.ensures) (put c.put-2.ensures)) (put c.put-3.ensures)) (put c.put-4.ensures)
