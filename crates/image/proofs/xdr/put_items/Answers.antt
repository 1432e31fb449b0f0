-- `image::xdr::put_items` meets its contract: after k turns the first k items stand there.
-- Assumes nothing.
use Rattle.std.proofs.Common.{ap, arith}
use Rattle.texts.proofs.Lines.{and, same, nothing}
use Rattle.image.specs.Xdr.{four_bytes, bytes_of}
use Rattle.image.proofs.Pieces.{item_turn}
use lib.Seq.{take_all}
use Rattle.image.proofs.xdr.put_items.Goals as goal

pub loop-item-init : goal.loop-item-init
unfolding bytes_of
loop-item-init c = nothing

pub loop-item-preserved : goal.loop-item-preserved
unfolding four_bytes
loop-item-preserved c =
    let l = c.loop-item in
    same (item_turn l.item-index c.args.items.now (omega arith)) (and l.invariant c.put_item.ensures)

pub returns : goal.returns
returns c =
    let l = c.loop-item in
    same (ap bytes_of (take_all l.item-index c.args.items.now (omega arith))) l.invariant
