-- `texts::width` meets its contract: the digits counted and those of what is left make one more than the number has.
-- Assumes nothing.
use Prim.Native.Nat.{◌+◌, ◌≤◌, ◌^◌, ◌<◌}
use mathlib.Core.Path.{◌≡◌}
use lib.ListN.{length}
use Rattle.common.specs.Decimal.{decimal}
use Rattle.texts.proofs.width.Given as goal

abbrev pub invariant-loop-rest : goal.invariant-loop-rest
invariant-loop-rest l = (l.digits + length (decimal l.rest) ≡ length (decimal l.n) + 1) × (l.rest < 2 ^ 64) × (length (decimal l.n) ≤ 20)

abbrev pub decreases-loop-rest : goal.decreases-loop-rest
decreases-loop-rest l = l.rest
