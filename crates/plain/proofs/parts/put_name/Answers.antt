-- `plain::parts::put_name` meets its contract: the last stamp, a sensor, an order, and the rest.
-- Assumes nothing.
use Rattle.std.proofs.Common.{arith, ◌∙◌}
use Rattle.texts.proofs.Lines.{same, put}
use Rattle.plain.specs.Parts.{item_names}
use Rattle.plain.proofs.Named.{sensor_items_lem, order_items_lem, item_of_sensor, item_of_order, item_of_rest}
use Rattle.plain.proofs.parts.put_name.Goals as goal

pub returns-in-0 : goal.returns-in-0
unfolding item_names
returns-in-0 c = rw c.in-0.is (put c.put.ensures)

pub put_of_sensor-requires : goal.put_of_sensor-requires
put_of_sensor-requires c = omega (arith, sensor_items_lem)

pub returns-in-1-to-72 : goal.returns-in-1-to-72
returns-in-1-to-72 c = same (item_of_sensor _ (omega arith) (omega arith)) c.put_of_sensor.ensures

pub put_of_order-requires : goal.put_of_order-requires
put_of_order-requires c = omega (arith, order_items_lem)

pub returns-in-73-to-82 : goal.returns-in-73-to-82
returns-in-73-to-82 c = same (item_of_order _ (omega arith) (omega arith)) c.put_of_order.ensures

pub returns-in_default : goal.returns-in_default
returns-in_default c = same (c.rest_name.ensures ∙ item_of_rest _ (omega arith)) (put c.put-in_default.ensures)
