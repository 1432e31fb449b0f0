-- `commands::messages::put_length` meets its contract: longer than an image, or shorter.
-- Assumes nothing.
use borrow.Author.Tests.{lt-ltb, le-ltb}
use Rattle.texts.proofs.Lines.{put, and}
use Rattle.commands.specs.Messages.{length_words}
use Rattle.commands.proofs.messages.put_length.Goals as goal

pub returns-then-read-gt-SIZE : goal.returns-then-read-gt-SIZE
unfolding length_words
returns-then-read-gt-SIZE c =
    rw (lt-ltb _ _ c.if-read-gt-SIZE.true) (put c.put.ensures)

pub returns : goal.returns
unfolding length_words
returns c =
    rw (le-ltb _ _ c.if-read-gt-SIZE.false) (and (put c.put-2.ensures) (and (put c.put_number.ensures) (put c.put-3.ensures)))
