-- `plain::lines::put_orders` meets its contract: the five orders, each by its name.
-- Assumes nothing.
use Rattle.texts.proofs.Lines.{and}
use Rattle.names.specs.Words.{order_names}
use Rattle.plain.specs.Plain.{order_lines}
use Rattle.plain.proofs.lines.put_orders.Goals as goal

pub returns : goal.returns
unfolding order_lines order_names
returns c =
    and
    (and (and (and c.order_line.ensures c.order_line-2.ensures) c.order_line-3.ensures) c.order_line-4.ensures)
    c.order_line-5.ensures
