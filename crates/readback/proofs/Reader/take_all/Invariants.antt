-- `readback::Reader::take_all` meets its contract. The loop's invariant: the rule gives for the whole part what it gives from here on.
-- Assumes nothing.
use mathlib.Core.Path.{◌≡◌}
use lib.ListN.{drop}
use Rattle.readback.specs.Reads.{AtHand, taken_from}
use Rattle.readback.proofs.Reader.take_all.Given as goal

abbrev pub invariant-loop-i : goal.invariant-loop-i
invariant-loop-i l =
    (l.values ≡ l.initial.values)
    × (taken_from l.fn.self l.fn.self 0 l.part l.initial.values ≡ taken_from l.fn.self l.reader l.i (drop l.i l.part) l.initial.values)
    × AtHand l.reader l.text
