-- `controller::votes::all_voted` meets its contract: before turn i the first i sensors have voted.
-- Assumes nothing.
use Rattle.std.proofs.Common.{◌≡◌}
use Rattle.common.proofs.Loops.{up_to}
use Rattle.controller.specs.Votes.{votes_at}
use Rattle.controller.proofs.votes.all_voted.Given as goal

abbrev pub invariant-loop-i : goal.invariant-loop-i
invariant-loop-i l = l.after ≡ up_to (votes_at l.sample) 0 l.i l.initial.after
