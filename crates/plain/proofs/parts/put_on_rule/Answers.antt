-- `plain::parts::put_on_rule` meets its contract: the order, and its rule.
-- Assumes nothing.
use Rattle.texts.proofs.Lines.{same, put, and}
use Rattle.plain.specs.Parts.{on_rule}
use Rattle.plain.proofs.parts.put_on_rule.Goals as goal

pub returns : goal.returns
unfolding on_rule
returns c =
    and (same c.word.ensures (put c.put.ensures)) (put c.put-2.ensures)
