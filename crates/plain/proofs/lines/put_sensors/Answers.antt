-- `plain::lines::put_sensors` meets its contract: after k turns the lines of the first k sensors stand there.
-- Assumes nothing.
use Rattle.std.proofs.Common.{◌≡◌, rules, ap, length, arith}
use lib.Seq.{take_all}
use Rattle.texts.proofs.Lines.{nothing, same, and}
use Rattle.plain.specs.Plain.{sensor_lines}
use Rattle.plain.proofs.Sensors.{sensor_turn}
use Rattle.plain.proofs.lines.put_sensors.Goals as goal

pub loop-k-init : goal.loop-k-init
unfolding sensor_lines
loop-k-init c = nothing

pub loop-k-preserved : goal.loop-k-preserved
loop-k-preserved c =
    let l = c.loop-k in
    let a = c.args in
    let long : length a.voters ≡ 18 = search rules in
    same (sensor_turn l.k a.voters _ (omega (arith, long))) (and l.invariant c.sensor_line.ensures)

pub returns : goal.returns
returns c =
    let l = c.loop-k in
    let a = c.args in
    let long : length a.voters ≡ 18 = search rules in
    same (ap (sensor_lines 0) (take_all l.k a.voters (omega (arith, long)))) l.invariant
