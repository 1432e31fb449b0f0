-- `texts::width` meets its contract: the digits counted and those of what is left make one more than the number has.
-- Assumes nothing.
use native.Mathlib.Omega.{arith}
use mathlib.Core.Path.{ap}
use lib.ListN.{length}
use Rattle.common.proofs.Decimals.{decimal_one, one_more, decimal_length}
use Rattle.texts.proofs.width.Goals as goal

pub loop-rest-init : goal.loop-rest-init
loop-rest-init c = (omega arith, omega arith, decimal_length 19 c.args.n (omega arith))

pub loop-rest-preserved : goal.loop-rest-preserved
loop-rest-preserved c =
    let e = one_more c.loop-rest.rest (omega arith) (omega arith) in
    omega (arith, e)

pub returns : goal.returns
returns c =
    let e = ap length (decimal_one c.loop-rest.rest (omega arith)) in
    omega (arith, e)
