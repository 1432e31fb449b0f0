-- What the answers of `cut` and `last` come to in document 01: a row, no row yet, or refusal 6 ("a row is over 512 bytes, line break not
-- counted", at the 512 bytes of the program's line buffer).
-- Assumes nothing.
use Rattle.std.specs.Prelude.{ℕ, List, take}
use Rattle.std.proofs.Math.Option.{Option, none, some}
use Rattle.common.specs.Answers.{Answer, gives, refuses}
use Rattle.lines.specs.declared.Taken.{Taken}
use Rattle.lines.specs.declared.Taken.TheVariants.{Row, More, Over}
use Rattle.lines.specs.declared.Final.{Final}
use Rattle.lines.specs.declared.Final.TheVariants.{Nothing, Last, Wider}

-- The number of a row that is over the line buffer.
abbrev pub over_line : ℕ
over_line = 6

-- A part, with the line buffer after it: the row that is whole, none where the part is used up before its row ends, or 6.
abbrev pub taken_says : Taken → List ℕ → Answer (Option (List ℕ))
taken_says (Row used len) line = gives (some (take len line))
taken_says (More len cr) line = gives none
taken_says Over line = refuses over_line

-- The end of the input: the last row, none where nothing is held, or 6.
abbrev pub final_says : Final → List ℕ → Answer (Option (List ℕ))
final_says Nothing line = gives none
final_says (Last len) line = gives (some (take len line))
final_says Wider line = refuses over_line
