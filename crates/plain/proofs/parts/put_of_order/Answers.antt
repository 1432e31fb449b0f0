-- `plain::parts::put_of_order` meets its contract: the name, and which of its two items it is.
-- Assumes nothing.
use Rattle.texts.proofs.Lines.{same, put, and}
use Rattle.plain.specs.Parts.{order_items}
use Rattle.plain.proofs.Named.{first_of_two, second_of_two}
use Rattle.plain.proofs.parts.put_of_order.Goals as goal

pub returns-then-j-eq0 : goal.returns-then-j-eq0
unfolding order_items
returns-then-j-eq0 c =
    same (first_of_two _ _ _ _ c.requires c.if-j-eq0.true) (and (same c.word.ensures (put c.put.ensures)) (put c.put-then-j-eq0.ensures))

pub returns : goal.returns
unfolding order_items
returns c =
    same (second_of_two _ _ _ _ c.requires c.if-j-eq0.false) (and (same c.word.ensures (put c.put.ensures)) (put c.put-2.ensures))
