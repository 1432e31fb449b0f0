-- `plain::parts::put_of_sensor` meets its contract: the name, and which of its four items it is.
-- Assumes nothing.
use Rattle.names.specs.Words.{sensor_names}
use Rattle.texts.proofs.Lines.{same, put, and}
use Rattle.plain.specs.Parts.{sensor_items}
use Rattle.plain.proofs.Named.{of_four}
use Rattle.plain.proofs.parts.put_of_sensor.Goals as goal

pub returns : goal.returns
unfolding sensor_items
returns c =
    same (of_four sensor_names _ c.requires) (and (same c.word.ensures (put c.put.ensures)) (same c.sensor_part.ensures (put c.put-2.ensures)))
