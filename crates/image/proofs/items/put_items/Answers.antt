-- `image::items::put_items` meets its contract: stamp, sensors, and core.
-- Assumes nothing.
use Rattle.std.proofs.Common.{ap, ◌∙◌, List, [], ◌∷◌, ℕ, ◌++◌}
use Rattle.texts.proofs.Lines.{and, same}
use Rattle.image.specs.Xdr.{bytes_of}
use Rattle.image.specs.Items.{sensors_items}
use Rattle.image.specs.Images.{image_of}
use Rattle.image.proofs.Pieces.{all_items}
use Rattle.image.proofs.items.put_items.Goals as goal

pub returns : goal.returns
unfolding image_of
returns c =
    let s = c.args.state in
    let core = ap (λ (b : List ℕ). (bytes_of (s.stamp ∷ []) ++ bytes_of (sensors_items s.voters)) ++ b) (ap bytes_of c.core_items.ensures) in
    same (core ∙ all_items s) (and (and c.put_items.ensures c.put_sensors.ensures) c.put_items-2.ensures)
