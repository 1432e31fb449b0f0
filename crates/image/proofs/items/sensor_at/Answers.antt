-- `image::items::sensor_at` meets its contract: the sensor of its items.
-- Assumes nothing.
use mathlib.Core.Path.{ap, ◌∙◌}
use Rattle.sensors.specs.Items.{sensor_in}
use Rattle.image.proofs.items.sensor_at.Goals as goal

pub returns : goal.returns
returns c = c.from_items.ensures ∙ ap sensor_in c.items.ensures
