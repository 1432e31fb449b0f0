-- `joined::sensors::three_each` meets its contract: after i turns the first i sensors stand in front, three times each.
-- Assumes nothing.
use Rattle.std.proofs.Common.{◌≡◌, ◌*◌, sym, refl, ap, ◌∙◌, arith, length-set, take_all}
use Rattle.controller.specs.Samples.{agreeing}
use Rattle.joined.proofs.Channels.{channels_turn}
use Rattle.joined.proofs.sensors.three_each.Goals as goal

pub loop-i-init : goal.loop-i-init
unfolding agreeing
loop-i-init c = (refl, refl)

pub loop-i-preserved : goal.loop-i-preserved
loop-i-preserved c =
    let sensors = c.args.sensors in
    let at = c.loop-i in
    (simp length-set at.invariant.0, channels_turn sensors at.sample at.i (omega arith) (omega arith) at.invariant.1)

pub returns : goal.returns
returns c =
    let sensors = c.args.sensors in
    let at = c.loop-i in
    let all : at.i ≡ 18 = omega arith in
    sym (take_all (3 * at.i) at.sample (omega arith)) ∙ at.invariant.1 ∙ ap agreeing (take_all at.i sensors (omega arith))
