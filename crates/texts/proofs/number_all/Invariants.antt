-- `texts::number_all` meets its contract. The loop's invariant: with the digits of what is left put in front of place i, the line is
-- what it is to be. A turn puts one digit there, and leaves those of the tenth.
-- Assumes nothing.
use Prim.Native.Nat.{◌+◌, ◌≤◌, ◌<◌, ◌^◌}
use mathlib.Core.List.{◌++◌}
use mathlib.Core.Path.{◌≡◌}
use lib.ListN.{length, take, drop}
use Rattle.common.specs.Decimal.{decimal}
use Rattle.texts.proofs.Placing.{placed}
use Rattle.texts.proofs.number_all.Given as goal

abbrev pub invariant-loop-rest : goal.invariant-loop-rest
invariant-loop-rest l =
    (l.rest < 2 ^ 64) ×
    (l.i ≡ l.at + length (decimal l.rest)) ×
    (l.i ≤ length l.line) ×
    (length l.line ≡ length l.initial.line) ×
    (take l.at l.line ++ decimal l.rest ++ drop l.i l.line ≡ placed l.initial.line l.at (decimal l.n))

abbrev pub decreases-loop-rest : goal.decreases-loop-rest
decreases-loop-rest l = l.rest
