-- `image::xdr::item` meets its contract: four bytes, most significant first.
-- Assumes nothing.
use Rattle.std.proofs.Common.{◌∙◌}
use Rattle.image.proofs.Reading.{item_read}
use Rattle.image.proofs.xdr.item.Goals as goal

pub returns : goal.returns
returns c = c.from_be_bytes.ensures ∙ item_read c.args.k c.args.image.now c.requires
