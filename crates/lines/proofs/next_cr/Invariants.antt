-- `lines::next_cr` meets its contract. The loop's invariant: what the search is to find is what is to be found from here on,
-- since no byte that was passed is a CR (`proofs/Steps.antt`). The measure is what is left in front of `to`.
-- Assumes nothing.
use Prim.Native.Nat.{◌-◌}
use Rattle.lines.proofs.Steps.{Searched}
use Rattle.lines.proofs.next_cr.Given as goal

abbrev pub invariant-loop-i : goal.invariant-loop-i
invariant-loop-i l = Searched l.part l.from l.to l.i

abbrev pub decreases-loop-i : goal.decreases-loop-i
decreases-loop-i l = l.to - l.i
