-- `joined::drawings::draw` meets its contract: after i turns the floats of the first i cylinders stand in front, and the rest is as it was.
-- Assumes nothing.
use Rattle.std.proofs.Common.{◌≡◌, ◌+◌, ◌*◌, ◌≤◌, length, refl, arith, lt-ltb}
use Rattle.joined.specs.Drawn.{floats_of, drawn_of}
use Rattle.joined.proofs.Drawing.{drawn_next, drawn_rest, drawn_all}
use Rattle.joined.proofs.drawings.draw.Goals as goal

pub returns-then-out-lt-FLOATS_OF_SIX : goal.returns-then-out-lt-FLOATS_OF_SIX
unfolding drawn_of
returns-then-out-lt-FLOATS_OF_SIX c = simp (lt-ltb _ _ c.if-out-lt-FLOATS_OF_SIX.true)

pub loop-i-init : goal.loop-i-init
unfolding floats_of
loop-i-init c = (refl, refl)

pub loop-i-preserved : goal.loop-i-preserved
loop-i-preserved c =
    let at = c.loop-i in
    let a = c.args in
    let room : 2 * at.i + 2 ≤ length at.out = omega arith in (
      drawn_next a.cylinders a.out.now at.out at.i _ room _ (omega arith) refl at.invariant.0,
      drawn_rest a.cylinders a.out.now at.out at.i _ room at.invariant.1,
    )

pub returns : goal.returns
returns c =
    let a = c.args in
    let at = c.loop-i in
    let all : at.i ≡ 6 = omega arith in
    drawn_all a.cylinders a.out.now at.out at.i all (omega arith) c.if-out-lt-FLOATS_OF_SIX.false at.invariant.0 at.invariant.1
