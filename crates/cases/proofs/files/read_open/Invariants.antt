-- `cases::files::read_open`: what was read lies within the buffer, and each turn reads some more.
-- Assumes nothing.
use Rattle.std.proofs.Common.{◌≤◌, ◌-◌, length}
use Rattle.cases.proofs.files.read_open.Given as goal

abbrev pub invariant-loop-n : goal.invariant-loop-n
invariant-loop-n l = l.n ≤ length l.into

abbrev pub decreases-loop-n : goal.decreases-loop-n
decreases-loop-n l = length l.into - l.n
