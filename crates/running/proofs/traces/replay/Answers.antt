-- `running::traces::replay` meets its contract: the loop's, from a fresh controller.
-- Assumes nothing.
use Rattle.std.proofs.Common.{subst}
use Rattle.controller.specs.declared.State.{State}
use Rattle.running.specs.Works.{rows}
use Rattle.running.specs.Loops.{RanFrom}
use Rattle.running.proofs.traces.replay.Goals as goal

pub returns : goal.returns
returns g c = subst (λ (s : State). RanFrom rows s c.run.result) c.fresh.ensures c.run.ensures
