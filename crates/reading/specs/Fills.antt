-- A whole part into one output buffer: its rows are taken in one after the other, each text behind the one before it, so that a program reads a
-- part once and writes once what it gave. Each turn of it is a call of specs/Runs.antt, whatever is made of the rows.
-- Assumes nothing.
use Rattle.std.specs.Prelude.{ℕ, zero, suc, ◌+◌, ◌-◌, ◌≤◌, ◌<◌, Bool, false, cond, not, ◌&&◌, List, [], ◌++◌, ◌≡◌, eqb, leb, ltb, length, take, drop}
use Rattle.reading.specs.declared.Run.{Run}
use Rattle.reading.specs.Rows.{has_ended}
use Rattle.reading.specs.Parts.{line_bytes}
use Rattle.reading.specs.Runs.{Teller, behind, Answer, lent, take_by, to_come, wrote}

-- ---- A text

-- What is carried on, and how many bytes a text has, which stands in front of the output buffer.
abbrev pub in_front : {A : Type 0} → A × List ℕ → List ℕ → (A × ℕ) × List ℕ
in_front told out = ((told.0, length told.1), told.1 ++ drop (length told.1) out)

-- ---- One turn

-- Before the first turn: nothing is used and nothing written, with 0 or refusal 8.
abbrev pub untouched : {A : Type 0} → ℕ → A → Run → List ℕ → List ℕ → Answer A
untouched refusal a run line out = (record { run = run; carried = a; used = 0; written = 0; refusal = refusal }, line, out)

-- There is a further turn where some of the part is left, no refusal has ended the reading, and there is room for what a row gives behind
-- what is written.
abbrev pub goes_on : {A : Type 0} → ℕ → List ℕ → Answer A → Bool
goes_on room part so_far =
    ltb so_far.0.used (length part)
    && leb room (length so_far.2 - so_far.0.written)
    && not (has_ended so_far.0.run.reading.phase)

-- It is a call with the rest of the part, and with the output buffer behind what is written.
abbrev pub call_from : {A : Type 0} → Teller A → ℕ → List ℕ → Answer A → Answer A
call_from tell room part so_far =
    take_by tell room so_far.0.carried so_far.0.run (drop so_far.0.used part) so_far.1 (drop so_far.0.written so_far.2)

-- What was given so far, and what the call gave.
abbrev pub joined : {A : Type 0} → Answer A → Answer A → Answer A
joined so_far call = (
  record {
    run = call.0.run;
    carried = call.0.carried;
    used = so_far.0.used + call.0.used;
    written = so_far.0.written + call.0.written;
    refusal = call.0.refusal;
  },
  call.1,
  take so_far.0.written so_far.2 ++ call.2,
)

abbrev pub turn_from : {A : Type 0} → Teller A → ℕ → List ℕ → Answer A → Answer A
turn_from tell room part so_far = joined so_far (call_from tell room part so_far)

-- ---- All turns

-- At most so many turns.
unfoldable pub fill_from : {A : Type 0} → Teller A → ℕ → List ℕ → ℕ → Answer A → Answer A
fill_from tell room part zero so_far = so_far
fill_from tell room part (suc turns) so_far =
    cond (goes_on room part so_far) (fill_from tell room part turns (turn_from tell room part so_far)) so_far

-- The whole part: a turn uses a byte at least, so one for each byte is enough. An output buffer of less than `room` bytes, or a line buffer that
-- is not 512 bytes, gets refusal 8, and all is as it was.
unfoldable pub fill_by : {A : Type 0} → Teller A → ℕ → A → Run → List ℕ → List ℕ → List ℕ → Answer A
fill_by tell room a run part line out =
    lent room a run line out
    (cond (eqb (length line) line_bytes) (fill_from tell room part (length part) (untouched 0 a run line out)) (untouched 8 a run line out))

-- ---- What is right of it

-- Nothing is refused, the line buffer stays as long as it was, of a part that is not empty some is used if no refusal had ended the reading, what
-- is written lies in the output buffer, which past it stays as it was, and what was to come is what is written and what is still to come.
pub record Filled {A : Type 0} (tell : Teller A) (a : A) (run : Run) (part line out : List ℕ) (answer : Answer A) : Type 0 where
  pub taken : answer.0.refusal ≡ 0
  pub full : length answer.1 ≡ line_bytes
  pub inside : answer.0.used ≤ length part
  pub forth : 0 < length part → has_ended run.reading.phase ≡ false → 0 < answer.0.used
  pub fits : answer.0.written ≤ length answer.2
  pub past : drop answer.0.written answer.2 ≡ drop answer.0.written out
  pub same : (rest : List ℕ)
      → to_come tell a run line (part ++ rest)
      ≡ behind (wrote answer) (to_come tell answer.0.carried answer.0.run answer.1 (drop answer.0.used part ++ rest))

-- And of the end of the input: nothing is refused, and what was to come is what is written, what is carried on and the run that is left.
pub record Finished {A : Type 0} (tell : Teller A) (a : A) (run : Run) (line : List ℕ) (answer : Answer A) : Type 0 where
  pub taken : answer.0.refusal ≡ 0
  pub all : to_come tell a run line [] ≡ (wrote answer, answer.0.carried, answer.0.run)
