-- A piece of text that is put at a place of a line, and what the line then holds.
-- Assumes nothing.
use Rattle.std.specs.Prelude.{ℕ, ◌+◌, ◌≤◌, cond, List, ◌++◌, ◌≡◌, leb, length, take, drop}

-- The place after the piece, and the line with the piece in it. Where there is no room for all of it, the place stays, and so does
-- the line.
unfoldable pub put_of : List ℕ → ℕ → List ℕ → ℕ × List ℕ
put_of line at piece =
    cond (leb (at + length piece) (length line))
    (at + length piece, take at line ++ piece ++ drop (at + length piece) line)
    (at, line)

-- The same with room for it, for pieces that are put one after the other: `next` is the place after the piece, the text that stood
-- before its place is followed by it, and the bytes past it are as they were.
pub record Put (before : List ℕ) (at : ℕ) (piece : List ℕ) (after : List ℕ) (next : ℕ) : Type 0 where
  pub place : next ≡ at + length piece
  pub size : length after ≡ length before
  pub text : take next after ≡ take at before ++ piece
  pub past : drop next after ≡ drop next before

-- With room for the piece, it is put. (Without, nothing is said.) So texts are put together of pieces, and the room is asked for once.
abbrev pub PutIfRoom : List ℕ → ℕ → List ℕ → List ℕ → ℕ → Type 0
PutIfRoom before at piece after next = at + length piece ≤ length before → Put before at piece after next
