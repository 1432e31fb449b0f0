-- `texts::put_number` meets its contract: where the number has no room, and where it has.
-- Assumes nothing.
use native.Mathlib.Omega.{arith}
use Rattle.texts.proofs.Placing.{no_room, as_put}
use Rattle.texts.proofs.put_number.Goals as goal

pub returns-then-size-at : goal.returns-then-size-at
returns-then-size-at c = no_room _ _ _ (omega arith)

pub returns-then-size-at-2 : goal.returns-then-size-at-2
returns-then-size-at-2 c = no_room _ _ _ (omega arith)

pub returns : goal.returns
returns c = as_put (omega arith) c.number_all.ensures
