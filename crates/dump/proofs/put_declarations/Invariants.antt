-- `dump::put_declarations` meets its contract: after i turns the declarations of the first i wires stand there.
-- Assumes nothing.
use lib.ListN.{take}
use Rattle.texts.specs.Lines.{PutsIfRoom}
use Rattle.dump.specs.Wires.{wire_names, first_code}
use Rattle.dump.specs.Dumps.{declarations}
use Rattle.dump.proofs.put_declarations.Given as goal

abbrev pub invariant-loop-wire : goal.invariant-loop-wire
invariant-loop-wire l = PutsIfRoom (declarations first_code (take l.wire wire_names)) l.initial.line l.line
