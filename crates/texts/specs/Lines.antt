-- A lent line and the place in it where the next piece goes: what it is after a piece was put into it.
-- Assumes nothing.
use Rattle.std.specs.Prelude.{ℕ, List, ◌≡◌}
use Rattle.texts.specs.Puts.{put_of, PutIfRoom}
use Rattle.texts.specs.declared.Line.{Line}

-- It is still the same lent line, and the piece is put at its place, or for want of room it is as it was.
pub record Puts (piece : List ℕ) (before after : Line) : Type 0 where
  pub same : after.bytes.ghost_name ≡ before.bytes.ghost_name
  pub put : (after.at, after.bytes.now) ≡ put_of before.bytes.now before.at piece

-- It is still the same lent line, and with room for the piece it is put. (Without, nothing is said.)
pub record PutsIfRoom (piece : List ℕ) (before after : Line) : Type 0 where
  pub same : after.bytes.ghost_name ≡ before.bytes.ghost_name
  pub put : PutIfRoom before.bytes.now before.at piece after.bytes.now after.at
