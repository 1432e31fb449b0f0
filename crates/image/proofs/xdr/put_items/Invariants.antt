-- `image::xdr::put_items` meets its contract: after k turns the first k items stand there.
-- Assumes nothing.
use Rattle.std.proofs.Common.{take}
use Rattle.texts.specs.Lines.{PutsIfRoom}
use Rattle.image.specs.Xdr.{bytes_of}
use Rattle.image.proofs.xdr.put_items.Given as goal

abbrev pub invariant-loop-item : goal.invariant-loop-item
invariant-loop-item l = PutsIfRoom (bytes_of (take l.item-index l.items)) l.initial.line l.line
