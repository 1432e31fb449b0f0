-- `forms::put_sensors` meets its contract: what is put of the sensors that are left, behind what was put, is all.
-- Assumes nothing.
use Rattle.std.proofs.Common.{◌≡◌}
use Rattle.std.specs.Slice.Iter.{chunks_exact_rest, chunks_exact_size}
use Rattle.forms.specs.Forms.{sensors, sensors_turned}
use Rattle.forms.proofs.Turns.{IsPutSoFar}
use Rattle.forms.proofs.put_sensors.Given as goal

abbrev pub invariant-loop-sensor : goal.invariant-loop-sensor
invariant-loop-sensor l =
    (goal.iterator-loop-sensor).can_next l.sensor-iterator ×
    (goal.iterator-loop-sensor).is_finite l.sensor-iterator ×
    (chunks_exact_size l.sensor-iterator ≡ l.width) ×
    IsPutSoFar l.behind l.width (sensors_turned l.behind l.width sensors l.bytes) l.initial.line (chunks_exact_rest l.sensor-iterator) l.line
