-- `dump::put_values` meets its contract: after i turns the values of the first i wires stand there.
-- Assumes nothing.
use lib.ListN.{take}
use Rattle.texts.specs.Lines.{PutsIfRoom}
use Rattle.dump.specs.Wires.{first_code}
use Rattle.dump.specs.Dumps.{value_lines}
use Rattle.dump.proofs.put_values.Given as goal

abbrev pub invariant-loop-i : goal.invariant-loop-i
invariant-loop-i l = PutsIfRoom (value_lines first_code (take l.i l.fn.values)) l.initial.line l.line
