-- A whole run by parts, whatever is made of its rows: `replay` writes rows, `waves` a dump. The parts of the input one after the other, each
-- taken in row by row until it is used up, and then the end of the input. Each call has the run and the line buffer that the one before it
-- left, and an output buffer of its own.
-- Assumes nothing.
use Rattle.std.specs.Prelude.{ℕ, zero, suc, ◌+◌, ◌≤◌, ◌<◌, cond, List, [], ◌∷◌, ◌++◌, ◌≡◌, ltb, length, take, drop}
use Rattle.lines.specs.Cuts.{rows_from}
use Rattle.controller.specs.declared.State.{State}
use Rattle.reading.specs.declared.Reading.{Reading}
use Rattle.reading.specs.declared.Came.{Came}
use Rattle.reading.specs.declared.Heard.{Heard}
use Rattle.reading.specs.declared.Run.{Run}
use Rattle.reading.specs.Answers.{Next}
use Rattle.reading.specs.Rows.{row_of, end_of}
use Rattle.reading.specs.Parts.{line_bytes, between, take_of, finish_of}

-- ---- What is made of a row

-- By what is carried on from row to row, the state before the row, what the row came to, and the state after it: what is carried on behind
-- it, and the text that is written of it.
abbrev pub Teller : Type 0 → Type 0
Teller A = A → State → Came → State → A × List ℕ

abbrev pub told_of : {A : Type 0} → Teller A → A → Reading → Heard → A × List ℕ
told_of tell a before heard = tell a before.state heard.came heard.reading.state

-- ---- The whole input

-- What a run comes to: the text that is written, what is carried on, and the run that is left.
abbrev pub Outcome : Type 0 → Type 0
Outcome A = List ℕ × A × Run

-- The same behind a text.
abbrev pub behind : {A : Type 0} → List ℕ → Outcome A → Outcome A
behind text outcome = (text ++ outcome.0, outcome.1, outcome.2)

-- The rows one after the other, and the end of the input.
unfoldable pub in_rows : {A : Type 0} → Teller A → A → Reading → List (List ℕ) → Outcome A
in_rows tell a reading [] =
    ((told_of tell a reading (end_of reading)).1, (told_of tell a reading (end_of reading)).0, between (end_of reading).reading)
in_rows tell a reading (row ∷ rows) =
    behind (told_of tell a reading (row_of reading row)).1
    (in_rows tell (told_of tell a reading (row_of reading row)).0 (row_of reading row).reading rows)

-- ---- A call

-- What a call gives: the run and what is carried on after it, how much of the part is used, how many bytes are written, and 0 or refusal 8.
pub record Called (A : Type 0) : Type 0 where
  pub run : Run
  pub carried : A
  pub used : ℕ
  pub written : ℕ
  pub refusal : ℕ

-- The same with the line buffer and the output buffer after it.
abbrev pub Answer : Type 0 → Type 0
Answer A = Called A × List ℕ × List ℕ

-- What was taken in, and the line buffer after it, with what is made of it: a text that stands in front of the output buffer, whose bytes
-- past the text stay.
abbrev pub written : {A : Type 0} → Next × List ℕ → A × List ℕ → List ℕ → Answer A
written next told out = (
  record { run = next.0.run; carried = told.0; used = next.0.used; written = length told.1; refusal = next.0.refusal },
  next.1,
  told.1 ++ drop (length told.1) out,
)

abbrev pub calls : {A : Type 0} → Teller A → A → Run → Next × List ℕ → List ℕ → Answer A
calls tell a run next out =
    written next (tell a run.reading.state next.0.came next.0.run.reading.state) out

-- An output buffer of less than `room` bytes gets refusal 8, and all is as it was.
abbrev pub lent : {A : Type 0} → ℕ → A → Run → List ℕ → List ℕ → Answer A → Answer A
lent room a run line out answer =
    cond (ltb (length out) room) (record { run = run; carried = a; used = 0; written = 0; refusal = 8 }, line, out) answer

-- A part up to the end of its first row, or all of it.
unfoldable pub take_by : {A : Type 0} → Teller A → ℕ → A → Run → List ℕ → List ℕ → List ℕ → Answer A
take_by tell room a run part line out = lent room a run line out (calls tell a run (take_of run part line) out)

-- The end of the input.
unfoldable pub finish_by : {A : Type 0} → Teller A → ℕ → A → Run → List ℕ → List ℕ → Answer A
finish_by tell room a run line out = lent room a run line out (calls tell a run (finish_of run line) out)

-- ---- What is still to come

-- From a run under way, with the input that follows: what the rows from the one under way on come to.
unfoldable pub to_come : {A : Type 0} → Teller A → A → Run → List ℕ → List ℕ → Outcome A
to_come tell a run line rest = in_rows tell a run.reading (rows_from (take run.len line) run.cr rest)

-- What is right of a call of the reading: nothing is refused, the line buffer stays as long as it was, of a part that is not empty some is
-- used, and what was to come is what is written and what is still to come.
pub record Right {A : Type 0} (tell : Teller A) (a : A) (run : Run) (part line : List ℕ) (next : Next × List ℕ) : Type 0 where
  pub taken : next.0.refusal ≡ 0
  pub full : length next.1 ≡ line_bytes
  pub inside : next.0.used ≤ length part
  pub forth : 0 < length part → 0 < next.0.used
  pub same : (rest : List ℕ)
      → (let told = tell a run.reading.state next.0.came next.0.run.reading.state in
      to_come tell a run line (part ++ rest) ≡ behind told.1 (to_come tell told.0 next.0.run next.1 (drop next.0.used part ++ rest)))

-- ---- All calls

-- The input: all parts as one.
abbrev pub input_of : List (List ℕ) → List ℕ
input_of [] = []
input_of (part ∷ parts) = part ++ input_of parts

-- What was written: so many bytes of the output buffer as the answer says.
abbrev pub wrote : {A : Type 0} → Answer A → List ℕ
wrote answer = take answer.0.written answer.2

-- What a run comes to in at most so many turns: a call of `take` for what is left of the first part, or the next part where nothing is left
-- of it, or the call of `finish` where there is none. `lends` has the output buffer of each turn.
unfoldable pub in_turns : {A : Type 0} → Teller A → ℕ → (ℕ → List ℕ) → ℕ → A → Run → List ℕ → List (List ℕ) → Outcome A
in_turns tell room lends zero a run line parts = ([], a, run)
in_turns tell room lends (suc turns) a run line [] = (
  wrote (finish_by tell room a run line (lends turns)),
  (finish_by tell room a run line (lends turns)).0.carried,
  (finish_by tell room a run line (lends turns)).0.run,
)
in_turns tell room lends (suc turns) a run line ([] ∷ parts) = in_turns tell room lends turns a run line parts
in_turns tell room lends (suc turns) a run line ((b ∷ part) ∷ parts) =
    behind (wrote (take_by tell room a run (b ∷ part) line (lends turns)))
    (in_turns tell room lends turns (take_by tell room a run (b ∷ part) line (lends turns)).0.carried
    (take_by tell room a run (b ∷ part) line (lends turns)).0.run (take_by tell room a run (b ∷ part) line (lends turns)).1
    (drop (take_by tell room a run (b ∷ part) line (lends turns)).0.used (b ∷ part) ∷ parts))

-- So many turns are enough: one for each byte, one for each part, and one for the end.
abbrev pub turns_for : List (List ℕ) → ℕ
turns_for [] = 1
turns_for (part ∷ parts) = length part + 1 + turns_for parts

-- Every output buffer that is lent has room for what a row gives.
abbrev pub AllRoom : ℕ → (ℕ → List ℕ) → Type 0
AllRoom room lends = (turn : ℕ) → room ≤ length (lends turn)

-- A whole run from its start on, with enough turns.
abbrev pub in_all : {A : Type 0} → Teller A → ℕ → (ℕ → List ℕ) → A → Run → List ℕ → List (List ℕ) → Outcome A
in_all tell room lends a run line parts = in_turns tell room lends (turns_for parts) a run line parts
