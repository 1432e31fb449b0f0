-- What a program makes of its input, whatever it is: a rule says what comes of an input and what each call for a part of it gives, and is right if
-- the calls give what is to come.
-- Assumes nothing.
use Rattle.std.specs.Prelude.{◌≡◌, ℕ, ◌<◌, ◌≤◌, Bool, true, false, List, [], ◌++◌, length, take, drop, replicate}
use Rattle.controller.specs.declared.State.{State}
use Rattle.dump.specs.Dumps.{head_length}
use Rattle.reading.specs.Parts.{line_bytes}
use Rattle.running.specs.Answers.{Filled}

-- An output buffer of so many bytes has room for what a row or a moment gives in each task: the head of a dump has most.
abbrev pub room : ℕ
room = head_length

-- What a call gives, with the line buffer and the output buffer after it.
abbrev pub Answer : Type 0 → Type 0
Answer A = Filled A × List ℕ × List ℕ

-- What was put in front of the output buffer.
abbrev pub wrote : {A : Type 0} → Answer A → List ℕ
wrote answer = take answer.0.written answer.2

-- From a work under way and its line buffer, with the input that follows: the text that is put out, and the work that is left.
abbrev pub Come : Type 0 → Type 0
Come A = List ℕ × A

-- The same behind a text.
abbrev pub behind : {A : Type 0} → List ℕ → Come A → Come A
behind text come = (text ++ come.0, come.1)

-- ---- A rule

-- What a task makes of its input, by a work under way.
pub record Rule (A : Type 0) : Type 0 where
  -- At its start, with the controller to go on with.
  pub start : State → A
  -- What stands in front of all that is put out, in every case.
  pub header : List ℕ
  -- A refusal has ended the reading: a 5, 6 or 7 that of a trace, a 9 that of a dump.
  pub is_ended : A → Bool
  -- A part of the input, as much of it as the output buffer has room for.
  pub fill_of : A → List ℕ → List ℕ → List ℕ → Answer A
  -- The end of the input.
  pub last_of : A → List ℕ → List ℕ → Answer A
  -- What is still to come.
  pub all_of : A → List ℕ → List ℕ → Come A
  -- What is left where a refusal has ended the reading: no row of a trace is under way.
  pub rest_of : A → A

-- ---- What is right of it

module _ {A : Type 0} (rule : Rule A) where
  -- What is right of a call, with a line buffer of 512 bytes and room in the output buffer: nothing is refused, the line buffer stays as long as it
  -- was, of a part that is not empty some is used if no refusal had ended the reading, and what was to come is what is written and what is
  -- still to come.
  pub record Right (work : A) (part line : List ℕ) (answer : Answer A) : Type 0 where
    pub taken : answer.0.refusal ≡ 0
    pub full : length answer.1 ≡ line_bytes
    pub forth : 0 < length part → rule.is_ended work ≡ false → 0 < answer.0.used
    pub same : (rest : List ℕ)
        → rule.all_of work line (part ++ rest) ≡ behind (wrote answer) (rule.all_of answer.0.work answer.1 (drop answer.0.used part ++ rest))

  -- And of the end of the input: nothing is refused, and what was to come is what is written and the work that is left.
  pub record RightLast (work : A) (line : List ℕ) (answer : Answer A) : Type 0 where
    pub taken : answer.0.refusal ≡ 0
    pub all : rule.all_of work line [] ≡ (wrote answer, answer.0.work)

  pub record IsRight : Type 0 where
    -- A part: nothing is refused, and what was to come is what is written and what is still to come.
    pub fill_right : (work : A) (part line out : List ℕ) → length line ≡ line_bytes → room ≤ length out
        → Right work part line (rule.fill_of work part line out)
    -- The end of the input: nothing is refused, and what was to come is what is written.
    pub last_right : (work : A) (line out : List ℕ) → length line ≡ line_bytes → room ≤ length out
        → RightLast work line (rule.last_of work line out)
    -- Where a refusal has ended the reading nothing is to come, whatever follows,
    pub ended_for_good : (work : A) (line rest : List ℕ) → rule.is_ended work ≡ true → rule.all_of work line rest ≡ ([], rule.rest_of work)
    -- and the work stays one that a refusal has ended, also behind the end of the input.
    pub stays_ended : (work : A) (line out : List ℕ) → length line ≡ line_bytes → room ≤ length out → rule.is_ended work ≡ true
        → rule.is_ended (rule.last_of work line out).0.work ≡ true

  -- The whole run from a controller, with all bytes of its input: the header, and what comes of the input. (At the start no byte of the line buffer
  -- counts; a program's is all zeros.)
  unfoldable pub whole_of : State → List ℕ → Come A
  whole_of state input = behind rule.header (rule.all_of (rule.start state) (replicate line_bytes 0) input)
