-- `readback::show` meets its contract: after i turns the first i values are shown.
-- Assumes nothing.
use mathlib.Core.Path.{◌≡◌}
use lib.ListN.{length, take}
use Rattle.dump.specs.Wires.{wires}
use Rattle.readback.specs.Reads.{bits}
use Rattle.readback.proofs.show.Given as goal

abbrev pub invariant-loop-i : goal.invariant-loop-i
invariant-loop-i l = (length l.out ≡ wires) × (take l.i l.out ≡ bits (take l.i l.fn.values))
