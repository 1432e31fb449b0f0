-- `image::items::put_state` meets its contract: all items have room.
-- Assumes nothing.
use Rattle.std.proofs.Common.{◌≡◌, ◌∙◌, ◌*◌, ℕ, ap, rules, arith, length}
use Rattle.texts.specs.Puts.{Put}
use Rattle.image.specs.Items.{sensor_count, items_of}
use Rattle.image.specs.Images.{size, image_of}
use Rattle.image.proofs.Fours.{bytes_length}
use Rattle.image.proofs.Strung.{items_of_length}
use Rattle.image.proofs.items.put_state.Goals as goal

pub returns : goal.returns
unfolding image_of
returns c =
    let s = c.args.state in
    let end = c.put_items.new.line in
    let all : length s.voters ≡ sensor_count = search rules in
    let long : length (image_of s) ≡ size = bytes_length (items_of s) ∙ ap (λ (n : ℕ). 4 * n) (items_of_length s all) in
    let own = rw c.new-line.ensures at c.put_items.ensures in
    let p : Put c.args.out.now 0 (image_of s) end.bytes.now end.at = own.put (omega (arith, long)) in
    let whole : end.at ≡ size = omega (arith, p.place, long) in
    search rules
