-- `forms::put_sensors` meets its contract: one sensor more is put, and where none is left all is.
-- Assumes nothing.
use Rattle.std.proofs.Common.{◌∙◌, arith}
use Rattle.texts.proofs.Lines.{put, and}
use Rattle.forms.specs.Forms.{sensor_turned}
use Rattle.forms.proofs.Turns.{one_more_put, none_left}
use Rattle.forms.proofs.put_sensors.Goals as goal

pub loop-sensor-preserved : goal.loop-sensor-preserved
unfolding sensor_turned
loop-sensor-preserved c =
    let so = c.loop-sensor.invariant in
    let steps = c.in-Some.ensures.steps in
    (omega (arith, steps.0, so.2), tt, steps.0 ∙ so.2, one_more_put c.requires.0 so.3 c.in-Some.sensor.now _ steps.1.0 (steps.1.1 ∙ so.2) (and (put c.put.ensures) (put c.put-in-loop-sensor.ensures)))

pub returns : goal.returns
returns c =
    let so = c.loop-sensor.invariant in
    let steps = c.in-None.ensures.steps in
    none_left c.requires.0 so.3 (omega (arith, steps.1.0, so.2))
