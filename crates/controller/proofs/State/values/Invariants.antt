-- `controller::State::values` meets its contract: before turn i the first i values are the sensors'.
-- Assumes nothing.
use Rattle.std.proofs.Common.{◌≡◌, ℕ, Bool, false, List, replicate}
use Rattle.common.proofs.Loops.{up_to}
use Rattle.voter.specs.declared.Voter.{Voter}
use Rattle.controller.specs.Votes.{sensor}
use Rattle.controller.proofs.State.values.Given as goal

-- What the values are to be: at place k the value of sensor k.
abbrev pub shows : List Voter → ℕ → Bool → Bool
shows voters k b = sensor k voters

abbrev pub invariant-loop-i : goal.invariant-loop-i
invariant-loop-i l = l.values ≡ up_to (shows l.fn.self.voters) 0 l.i (replicate 18 false)
