-- `image::items::core_in` meets its contract: the orders, and one item after the other.
-- Assumes nothing.
use Rattle.image.proofs.items.core_in.Goals as goal

pub returns : goal.returns
returns c = simp (c.orders_in.ensures, c.numbered-2.ensures, c.numbered.ensures)
