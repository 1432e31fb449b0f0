-- The sheet of a dump by parts: what is still to come of a sheet under way, and what taking in a part into one output buffer gives.
-- Assumes nothing.
use Rattle.std.specs.Prelude.{◌≡◌, ℕ, zero, suc, ◌+◌, ◌%◌, ◌^◌, ◌<◌, ◌≤◌, true, false, cond, Some, None, List, [], ◌∷◌, ◌++◌, length, take, drop, ◌==◌, nat_lt}
use Rattle.common.specs.Ascii.{lf}
use Rattle.readback.specs.declared.Reader.{Reader}
use Rattle.readback.specs.Answers.{Took as ReaderTook}
use Rattle.readback.specs.Bytes.{new_reader, byte_of}
use Rattle.readback.specs.Reads.{is_bad, complete, begins}
use Rattle.sheets.specs.declared.Sheet.{Sheet}
use Rattle.sheets.specs.declared.Turn.{Turn}
use Rattle.sheets.specs.Answers.{Took}
use Rattle.sheets.specs.Sheets.{sheet_row, row_room}

-- ---- A sheet under way

-- Nothing is read, line 1 is under way, and no row is written.
unfoldable pub new_sheet : Sheet
new_sheet = record { reader = new_reader; line = 1; rows = 0; nine = false }

-- Lines and rows are counted modulo 2 ^ 64.
abbrev pub one_more : ℕ → ℕ
one_more n = (n + 1) % 2 ^ 64

-- Behind an LF the next line is under way.
abbrev pub line_after : ℕ → ℕ → ℕ
line_after line b = cond (b == lf) (one_more line) line

unfoldable pub line_behind : ℕ → List ℕ → ℕ
line_behind line [] = line
line_behind line (b ∷ bytes) = line_behind (line_after line b) bytes

-- A byte is read.
abbrev pub reads : Sheet → ℕ → Sheet
reads s b = record { reader = byte_of s.reader b; line = line_after s.line b; rows = s.rows; nine = false }

-- The row of the moment that is complete is written.
abbrev pub with_row : Sheet → Sheet
with_row s = record { reader = s.reader; line = s.line; rows = one_more s.rows; nine = false }

abbrev pub row_of : Reader → List ℕ
row_of r = sheet_row r.time r.values

-- The 9: nothing is read any more, so the reader is a new one. The line under way is the one of the byte that is refused.
abbrev pub over : Sheet → Sheet
over s = record { reader = new_reader; line = s.line; rows = s.rows; nine = true }

-- ---- What is still to come

-- A text that is written, and the sheet that is left.
abbrev pub Outcome : Type 0
Outcome = List ℕ × Sheet

-- The same behind a text.
abbrev pub behind : List ℕ → Outcome → Outcome
behind text outcome = (text ++ outcome.0, outcome.1)

-- The bytes that follow, one after the other, and the end of the input.
unfoldable pub comes : Sheet → List ℕ → Outcome
comes s [] = cond (complete s.reader) (row_of s.reader, with_row s) ([], over s)
comes s (b ∷ bytes) =
    cond (is_bad (byte_of s.reader b).place) ([], over s)
    (cond (begins s.reader b) (behind (row_of s.reader) (comes (with_row (reads s b)) bytes))
    (comes (reads s b) bytes))

-- After a 9 nothing comes.
unfoldable pub to_come : Sheet → List ℕ → Outcome
to_come s bytes = cond s.nine ([], s) (comes s bytes)

-- ---- A call

-- A part is taken in until it is used up, a 9 has ended the reading, or less than the room for a row is left of so many bytes: the sheet
-- then, how many bytes are used, and the text that is written. (A 9 uses the part up: nothing is read after it.)
abbrev pub Filling : Type 0
Filling = Sheet × ℕ × List ℕ

unfoldable pub fill_from : ℕ → Sheet → ℕ → List ℕ → List ℕ → Filling
fill_from size s used text [] = (s, used, text)
fill_from size s used text (b ∷ bytes) =
    cond (is_bad (byte_of s.reader b).place) (over s, used + length (b ∷ bytes), text)
    (cond (begins s.reader b)
    (cond (nat_lt size (length (text ++ row_of s.reader) + row_room)) (with_row (reads s b), suc used, text ++ row_of s.reader)
    (fill_from size (with_row (reads s b)) (suc used) (text ++ row_of s.reader) bytes))
    (fill_from size (reads s b) (suc used) text bytes))

-- The answer: the text stands in front of the output buffer, whose bytes past the text stay.
abbrev pub filled : Filling → List ℕ → Took × List ℕ
filled f out = (record { sheet = f.0; used = f.1; written = length f.2; refusal = 0 }, f.2 ++ drop (length f.2) out)

-- An output buffer that has no room for a row gets refusal 8, and all is as it was.
abbrev pub lent : Sheet → List ℕ → Took × List ℕ → Took × List ℕ
lent s out answer =
    cond (nat_lt (length out) row_room) (record { sheet = s; used = 0; written = 0; refusal = 8 }, out) answer

-- A part of the input. After a 9 it is used up, and gives nothing.
unfoldable pub fill_of : Sheet → List ℕ → List ℕ → Took × List ℕ
fill_of s part out =
    lent s out (cond s.nine (filled (s, length part, []) out) (filled (fill_from (length out) s 0 [] part) out))

-- The end of the input: the row of the last moment, or the 9.
unfoldable pub finish_of : Sheet → List ℕ → Took × List ℕ
finish_of s out =
    lent s out
    (cond s.nine (filled (s, 0, []) out)
    (cond (complete s.reader) (filled (with_row s, 0, row_of s.reader) out) (filled (over s, 0, []) out)))

-- What a call of the reader on bytes comes to for a sheet: the sheet behind what is used of them, and the moment's time, where one is
-- given.
abbrev pub turn_by : Sheet → List ℕ → ReaderTook → Turn
turn_by s bytes took =
    cond (took.refusal == 0)
    (record {
      sheet = record { reader = took.reader; line = line_behind s.line (take took.used bytes); rows = s.rows; nine = false };
      moment = cond took.given (Some took.time) None;
      used = took.used;
    })
    (record {
      sheet = record { reader = new_reader; line = line_behind s.line (take took.used bytes); rows = s.rows; nine = true };
      moment = None;
      used = took.used;
    })

-- ---- What is right of a call

-- What was written: so many bytes of the output buffer as the answer says.
abbrev pub wrote : Took × List ℕ → List ℕ
wrote answer = take answer.0.written answer.1

-- Nothing is refused; of a part that is not empty some is used; what is written stands in the output buffer, whose bytes past it stay;
-- and what was to come is what is written and what is still to come.
pub record Filled (s : Sheet) (part out : List ℕ) (answer : Took × List ℕ) : Type 0 where
  pub taken : answer.0.refusal ≡ 0
  pub inside : answer.0.used ≤ length part
  pub forth : 0 < length part → 0 < answer.0.used
  pub fits : answer.0.written ≤ length answer.1
  pub past : drop answer.0.written answer.1 ≡ drop answer.0.written out
  pub same : (rest : List ℕ)
      → to_come s (part ++ rest) ≡ behind (wrote answer) (to_come answer.0.sheet (drop answer.0.used part ++ rest))

-- The same of the end of the input: it gives all that was to come.
pub record Finished (s : Sheet) (out : List ℕ) (answer : Took × List ℕ) : Type 0 where
  pub taken : answer.0.refusal ≡ 0
  pub fits : answer.0.written ≤ length answer.1
  pub past : drop answer.0.written answer.1 ≡ drop answer.0.written out
  pub all : to_come s [] ≡ (wrote answer, answer.0.sheet)

-- ---- All calls

-- The input: all parts as one.
abbrev pub input_of : List (List ℕ) → List ℕ
input_of [] = []
input_of (part ∷ parts) = part ++ input_of parts

-- What at most so many turns come to: a call of `fill` for what is left of the first part, or the next part where nothing is left of it,
-- or the call of `finish` where there is none. `lends` has the output buffer of each turn.
unfoldable pub in_turns : (ℕ → List ℕ) → ℕ → Sheet → List (List ℕ) → Outcome
in_turns lends zero s parts = ([], s)
in_turns lends (suc turns) s [] = (wrote (finish_of s (lends turns)), (finish_of s (lends turns)).0.sheet)
in_turns lends (suc turns) s ([] ∷ parts) = in_turns lends turns s parts
in_turns lends (suc turns) s ((b ∷ part) ∷ parts) =
    behind (wrote (fill_of s (b ∷ part) (lends turns)))
    (in_turns lends turns (fill_of s (b ∷ part) (lends turns)).0.sheet
    (drop (fill_of s (b ∷ part) (lends turns)).0.used (b ∷ part) ∷ parts))

-- So many turns are enough: one for each byte, one for each part, and one for the end.
abbrev pub turns_for : List (List ℕ) → ℕ
turns_for [] = 1
turns_for (part ∷ parts) = length part + 1 + turns_for parts

-- A whole run, with enough turns.
abbrev pub in_all : (ℕ → List ℕ) → Sheet → List (List ℕ) → Outcome
in_all lends s parts = in_turns lends (turns_for parts) s parts

-- Every output buffer that is lent has room for a row.
abbrev pub AllRoom : (ℕ → List ℕ) → Type 0
AllRoom lends = (turn : ℕ) → row_room ≤ length (lends turn)
