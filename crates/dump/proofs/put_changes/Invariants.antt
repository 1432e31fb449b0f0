-- `dump::put_changes` meets its contract: after i turns the changes of the first i wires stand there.
-- Assumes nothing.
use lib.ListN.{take}
use Rattle.texts.specs.Lines.{PutsIfRoom}
use Rattle.dump.specs.Wires.{first_code}
use Rattle.dump.specs.Dumps.{changes_from}
use Rattle.dump.proofs.put_changes.Given as goal

abbrev pub invariant-loop-i : goal.invariant-loop-i
invariant-loop-i l = PutsIfRoom (changes_from first_code (take l.i l.olds) (take l.i l.news)) l.initial.line l.line
