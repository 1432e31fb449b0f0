-- `running::all` meets its contract: what was done so far stays right with each step, and at the end it is all.
-- Assumes nothing.
use Rattle.std.proofs.Common.{◌≡◌, ◌≤◌, false, length}
use Rattle.running.specs.Loops.{left_of}
use Rattle.running.proofs.Along.{Along}
use Rattle.running.proofs.all.Given as goal

abbrev pub invariant-loop : goal.invariant-loop
invariant-loop g l =
    let rule = g.T.Task.rule in
    (length l.input ≡ length l.initial.input)
    × (length l.line ≡ length l.initial.line)
    × (length l.out ≡ length l.initial.out)
    × (l.at.progress.left ≤ l.at.progress.to)
    × (l.at.progress.to ≤ length l.input)
    × (l.at.progress.end ≡ false)
    × Along rule l.put (rule.all_of l.initial.at.work l.initial.line) l.at.work l.line (left_of l.at l.input) l.at.progress.put
