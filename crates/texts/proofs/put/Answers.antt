-- `texts::put` meets its contract: where the piece has no room, and where it has.
-- Assumes nothing.
use native.Mathlib.Omega.{arith}
use Rattle.texts.proofs.Placing.{no_room, copied}
use Rattle.texts.proofs.put.Goals as goal

pub returns-then-size-at : goal.returns-then-size-at
returns-then-size-at c = no_room _ _ _ (omega arith)

pub returns-then-size-at-2 : goal.returns-then-size-at-2
returns-then-size-at-2 c = no_room _ _ _ (omega arith)

pub returns : goal.returns
returns c =
    let a = c.args in
    copied a.line.now a.at _ a.piece.now _ (omega arith) c.copy.ensures.count c.copy.ensures.after
