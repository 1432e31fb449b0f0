-- `joined::drives::six_moved` meets its contract: after i turns the first i cylinders have moved.
-- Assumes nothing.
use Rattle.std.proofs.Common.{◌≡◌}
use Rattle.common.proofs.Loops.{up_to}
use Rattle.joined.specs.Drives.{moves_at}
use Rattle.joined.proofs.drives.six_moved.Given as goal

abbrev pub invariant-loop-i : goal.invariant-loop-i
invariant-loop-i l = l.after ≡ up_to (moves_at l.orders l.given l.elapsed) 0 l.i l.initial.after
