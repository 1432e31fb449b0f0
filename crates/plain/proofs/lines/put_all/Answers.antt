-- `plain::lines::put_all` meets its contract: the stamp's line, the sensors', the orders' and the others.
-- Assumes nothing.
use Rattle.texts.proofs.Lines.{put, and}
use Rattle.plain.specs.Plain.{line, plain_of}
use Rattle.plain.proofs.lines.put_all.Goals as goal

pub returns : goal.returns
unfolding line plain_of
returns c =
    let stamped = and (and (put c.put.ensures) (put c.put_number.ensures)) (put c.put-2.ensures) in
    and (and (and stamped c.put_sensors.ensures) c.put_orders.ensures) c.put_rest.ensures
