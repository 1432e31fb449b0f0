-- `controller::State::values` meets its contract: before turn i the first i values are the sensors'.
-- Assumes nothing.
use Rattle.std.proofs.Common.{◌≡◌, ◌<◌, Bool, false, List, length, set, replicate, ◌∙◌, ap, ap₂, arith}
use Rattle.common.specs.Lists.{each_from}
use Rattle.common.proofs.Loops.{up_to_turn, up_to_all, get_or_within}
use Rattle.voter.specs.Voting.{fresh_with, value_of}
use Rattle.controller.specs.Votes.{sensor}
use Rattle.controller.specs.Lamps.{values_of}
use Rattle.controller.proofs.State.values.Goals as goal
use Rattle.controller.proofs.State.values.Invariants.{shows}

pub loop-i-preserved : goal.loop-i-preserved
unfolding sensor
loop-i-preserved c =
    let at = c.loop-i in
    let vs = c.args.self.voters in
    let within : at.i < length (replicate 18 false) = omega arith in
    let says : c.value.result ≡ shows vs at.i false =
    c.value.ensures ∙ ap value_of (get_or_within vs at.i _ (fresh_with false) (omega arith)) in
    ap₂ (λ (l : List Bool) (b : Bool). set l at.i b) at.invariant says ∙ up_to_turn (shows vs) at.i (replicate 18 false) false within

pub returns : goal.returns
unfolding values_of each_from
returns c =
    let at = c.loop-i in
    at.invariant ∙ up_to_all (shows c.args.self.voters) 0 at.i (replicate 18 false) (omega arith)
