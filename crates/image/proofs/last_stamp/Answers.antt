-- `image::last_stamp` meets its contract: the first item, if it is there.
-- Assumes nothing.
use Rattle.std.proofs.Common.{sym}
use Rattle.image.proofs.Reading.{no_item}
use Rattle.image.proofs.last_stamp.Goals as goal

pub returns-then-image-lt-ITEM : goal.returns-then-image-lt-ITEM
returns-then-image-lt-ITEM c = sym (no_item _ c.if-image-lt-ITEM.true)
