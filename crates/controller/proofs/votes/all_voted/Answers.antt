-- `controller::votes::all_voted` meets its contract: before turn i the first i sensors have voted.
-- Assumes nothing.
use Rattle.std.proofs.Common.{◌<◌, ◌≤◌, List, length, get_or, set, ap, ◌∙◌, ap₂, arith}
use Rattle.common.proofs.Loops.{up_to_next, up_to_turn, up_to_all}
use Rattle.voter.specs.declared.Voter.{Voter}
use Rattle.controller.specs.Votes.{votes_at, all_voted}
use Rattle.controller.proofs.votes.all_voted.Goals as goal

pub loop-i-preserved : goal.loop-i-preserved
loop-i-preserved c =
    let vs = c.args.voters in
    let at = c.loop-i in
    let f = votes_at c.args.sample.now in
    let within : at.i < length vs = omega arith in
    ap₂ (λ (l : List Voter) (v : Voter). set l at.i v) at.invariant
    (c.vote.ensures ∙ ap (f at.i) (ap (λ (l : List Voter). get_or l at.i _) at.invariant ∙ up_to_next f 0 at.i vs _))
    ∙ up_to_turn f at.i vs _ within

pub returns : goal.returns
unfolding all_voted
returns c =
    let vs = c.args.voters in
    let at = c.loop-i in
    let past : length vs ≤ at.i = omega arith in
    at.invariant ∙ up_to_all (votes_at c.args.sample.now) 0 at.i vs past
