-- `image::xdr::put_item` meets its contract: four bytes, most significant first.
-- Assumes nothing.
use Rattle.std.proofs.Common.{◌∙◌}
use Rattle.texts.proofs.Lines.{put, same}
use Rattle.image.specs.Xdr.{four_bytes}
use Rattle.image.proofs.Reading.{four_are_be}
use Rattle.image.proofs.xdr.put_item.Goals as goal

pub returns : goal.returns
unfolding four_bytes
returns c = same (c.to_be_bytes.ensures ∙ four_are_be c.args.item) (put c.put.ensures)
