-- `image::items::put_sensors` meets its contract: after k turns the items of the first k sensors stand there.
-- Assumes nothing.
use Rattle.std.proofs.Common.{take}
use Rattle.texts.specs.Lines.{PutsIfRoom}
use Rattle.image.specs.Xdr.{bytes_of}
use Rattle.image.specs.Items.{sensors_items}
use Rattle.image.proofs.items.put_sensors.Given as goal

abbrev pub invariant-loop-v : goal.invariant-loop-v
invariant-loop-v l = PutsIfRoom (bytes_of (sensors_items (take l.v-index l.v-items))) l.initial.line l.line
