-- `image::items::core_items` meets its contract: one item after the other.
-- Assumes nothing.
use Rattle.common.proofs.Bits.{byte_is_bit}
use Rattle.image.specs.Items.{order_items, orders_items, rest_items, core_items}
use Rattle.image.proofs.items.core_items.Goals as goal

pub returns : goal.returns
unfolding order_items orders_items rest_items core_items
returns c = simp (c.number-2.ensures, c.number.ensures, byte_is_bit)
