-- `plain::lines::put_sensors` meets its contract: after i turns the lines of the first i sensors stand there.
-- Assumes nothing.
use lib.ListN.{take}
use Rattle.texts.specs.Lines.{PutsIfRoom}
use Rattle.plain.specs.Plain.{sensor_lines}
use Rattle.plain.proofs.lines.put_sensors.Given as goal

abbrev pub invariant-loop-k : goal.invariant-loop-k
invariant-loop-k l =
    PutsIfRoom (sensor_lines 0 (take l.k l.v-items)) l.initial.text l.text
