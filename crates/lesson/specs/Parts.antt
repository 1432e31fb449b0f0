-- The same by parts, one row a call: what a call gives, with the line buffer and the output buffer that are lent, and what is written and left
-- in all.
-- Assumes nothing.
use Rattle.std.specs.Prelude.{ℕ, List}
use Rattle.reading.specs.declared.Run.{Run}
use Rattle.reading.specs.Runs.{Answer, take_by, finish_by, in_all}
use Rattle.reading.specs.Fills.{fill_by}
use Rattle.lesson.specs.Answers.{Took}
use Rattle.lesson.specs.Replay.{text_told}

-- An output row has at most 64 bytes.
abbrev pub room : ℕ
room = 64

-- ---- A call

abbrev pub took_of : Answer (Unit {0}) → Took × List ℕ × List ℕ
took_of answer = (
  record { run = answer.0.run; used = answer.0.used; written = answer.0.written; refusal = answer.0.refusal },
  answer.1,
  answer.2,
)

-- A part of the input.
unfoldable pub take_of : Run → List ℕ → List ℕ → List ℕ → Took × List ℕ × List ℕ
take_of run part line out = took_of (take_by text_told room Prim.tt run part line out)

-- The end of the input.
unfoldable pub finish_of : Run → List ℕ → List ℕ → Took × List ℕ × List ℕ
finish_of run line out = took_of (finish_by text_told room Prim.tt run line out)

-- ---- A whole part

-- What was given so far, as an answer.
abbrev pub answer_of : Took → List ℕ → List ℕ → Answer (Unit {0})
answer_of took line out = (
  record { run = took.run; carried = Prim.tt; used = took.used; written = took.written; refusal = took.refusal },
  line,
  out,
)

-- The part row by row, as far as there is room.
unfoldable pub fill_of : Run → List ℕ → List ℕ → List ℕ → Took × List ℕ × List ℕ
fill_of run part line out = took_of (fill_by text_told room Prim.tt run part line out)

-- ---- All calls

-- Each turn of a run is a call of `take` or `finish`: `take_of` and `finish_of` are what `in_all` goes by, in the fields of the answer.
-- What is written in all from a run and a line buffer on, with an output buffer for each turn, and the run that is left of it.
abbrev pub written_in_all : (ℕ → List ℕ) → Run → List ℕ → List (List ℕ) → List ℕ
written_in_all lends run line parts = (in_all text_told room lends Prim.tt run line parts).0

abbrev pub left_in_all : (ℕ → List ℕ) → Run → List ℕ → List (List ℕ) → Run
left_in_all lends run line parts = (in_all text_told room lends Prim.tt run line parts).2
