-- `table::table_number` meets its contract: before turn n the first n entries are added up.
-- Assumes nothing.
use Prim.Native.Nat.{◌*◌, ◌≤◌}
use mathlib.Core.Path.{◌≡◌}
use Rattle.table.proofs.Weights.{sum_of}
use Rattle.table.proofs.table_number.Given as goal

abbrev pub invariant-loop-n : goal.invariant-loop-n
invariant-loop-n l = (l.sum ≡ sum_of l.n) × (l.sum ≤ 15360 * l.n)
