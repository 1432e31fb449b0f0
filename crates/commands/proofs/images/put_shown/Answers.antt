-- `commands::images::put_shown` meets its contract: the words of an image, and a line more where it is blank.
-- Assumes nothing.
use Rattle.texts.proofs.Lines.{put, and, same}
use Rattle.commands.proofs.Shows.{blank_shown, no_blank_shown}
use Rattle.commands.proofs.images.put_shown.Goals as goal

pub returns-then-loaded : goal.returns-then-loaded
returns-then-loaded c = same (blank_shown _ c.if-loaded.true) (and (put c.put.ensures) (put c.put-then-loaded.ensures))

pub returns-else-loaded : goal.returns-else-loaded
returns-else-loaded c = same (no_blank_shown _ c.if-loaded.false) (put c.put.ensures)
