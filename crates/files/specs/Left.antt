-- What a trace leaves, whatever the bytes of the input are, and the row that it is of.
-- Assumes nothing.
use Rattle.std.specs.Prelude.{ℕ, cond, List, [], ◌∷◌, ◌≡◌}
use Rattle.std.proofs.Math.Option.{Option, none, some, or_else}
use Rattle.lines.specs.Rows.{rows_of}
use Rattle.controller.specs.declared.State.{State}
use Rattle.reading.specs.declared.Reading.{Reading}
use Rattle.reading.specs.Rows.{read_from}
use Rattle.reading.specs.Whole.{read_to, is_answered}
use Rattle.handing.specs.Handing.{last_line}
use Rattle.files.specs.Told.{Told, told}

-- The reading that the whole input leaves, with the controller as its last row that was answered left it.
abbrev pub left_of : State → List ℕ → Reading
left_of state input = read_to (read_from state) (rows_of input)

-- The last of some rows that is answered, with 0, 3 or 4, if one is.
unfoldable pub last_answered : List Told → Option Told
last_answered [] = none
last_answered (t ∷ ts) = or_else (last_answered ts) (cond (is_answered t.came) (some t) none)

-- Its line, or this where there is none.
abbrev pub line_or : ℕ → Option Told → ℕ
line_or line none = line
line_or line (some t) = t.line

-- The state that it shows, or this where there is none.
abbrev pub state_or : State → Option Told → State
state_or s none = s
state_or s (some t) = t.after

-- What is left is of that row: its line, 0 where there is none, and its state, the one before the input where there is none.
pub record OfLastAnswered (state : State) (input : List ℕ) : Type 0 where
  pub line : last_line (left_of state input).phase ≡ line_or 0 (last_answered (told state input))
  pub shows : (left_of state input).state ≡ state_or state (last_answered (told state input))
