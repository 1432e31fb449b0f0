-- The one loop of all programs, from a reader to a writer: what one step promises over what `read` left in the input buffer, and what
-- the whole loop does. What `read` and `write` do is the operating system's: that the bytes which `read` left are those of the input, and that
-- `write` moves those that it is handed, is not said here.
-- Assumes nothing.
use Rattle.std.specs.Prelude.{◌≡◌, ℕ, ◌+◌, ◌%◌, ◌^◌, ◌<◌, ◌≤◌, ◌||◌, T, List, length, Option, Some, None, IfSome, option_map}
use Rattle.controller.specs.declared.State.{State}
use Rattle.reading.specs.Runs.{input_of}
use Rattle.loops.specs.declared.Progress.{Progress}
use Rattle.loops.specs.Progresses.{read_part, not_read, taken_in, left_in}
use Rattle.running.specs.declared.At.{At}
use Rattle.running.specs.declared.Ran.{Ran}
use Rattle.running.specs.Rules.{Answer, Come, Rule, whole_of}

-- ---- A step

-- After a read: so many bytes of the input buffer are the part, with none the input has ended; or it failed, and is to be tried again or not.
-- (That the number is the one that `read` answered no contract can say: it is read in the body of `read`.)
pub data AfterRead (before : Progress) (after : Option Progress) (input : List ℕ) : Type 0 where
  answers : (n : ℕ) → n ≤ length input → after ≡ Some (read_part before n) → AfterRead before after input
  again : after ≡ Some (not_read before) → AfterRead before after input
  fails : after ≡ None → AfterRead before after input

module _ {A : Type 0} where
  -- What of the part that was read is not taken in yet.
  abbrev pub left_of : At A → List ℕ → List ℕ
  left_of at input = left_in at.progress input

  -- The work and how far the loop is, as a call gives them; and the buffers that were lent to it.
  abbrev pub filled_at : At A → Answer A → At A
  filled_at before answer =
      record { work = answer.0.work; progress = taken_in before.progress answer.0.used answer.0.written }

  abbrev pub lent_by : Answer A → List ℕ × List ℕ
  lent_by answer = (answer.1, answer.2)

  -- The end of the loop: the last row or moment, as `last_of` gives it.
  abbrev pub last_at : At A → Answer A → Ran A × List ℕ × List ℕ
  last_at before answer = (
    record {
      end = before.progress.end;
      work = answer.0.work;
      put = (before.progress.put + answer.0.written) % 2 ^ 64;
    },
    answer.1,
    answer.2,
  )

module _ {A : Type 0} (rule : Rule A) where
  -- A step that takes in: where nothing failed, the work and what is used of the part are those that `fill_of` gives of what is left of the part,
  -- and nothing was refused. In every case so are the line buffer and what is ready for `write`, which is as many bytes of the output buffer as are
  -- said to be written.
  pub record AfterFill (before : At A) (after : Option (At A)) (input line line' out out' : List ℕ) : Type 0 where
    pub taken : IfSome after (λ at. at ≡ filled_at before (rule.fill_of before.work (left_of before input) line out))
    pub lent : (line', out') ≡ lent_by (rule.fill_of before.work (left_of before input) line out)
    pub inside : (rule.fill_of before.work (left_of before input) line out).0.used ≤ before.progress.left
    pub within : (rule.fill_of before.work (left_of before input) line out).0.written ≤ length out'
    pub not_refused : IfSome after (λ at. (rule.fill_of before.work (left_of before input) line out).0.refusal ≡ 0)

  -- A step: where nothing is left of the part it reads, and else it takes in. Where it failed there is no work to go on with.
  pub record Step (before : At A) (after : Option (At A)) (input input' line line' out out' : List ℕ) : Type 0 where
    pub reads : before.progress.left ≡ 0
        → IfSome after (λ at. at.work ≡ before.work) × AfterRead before.progress (option_map (λ at. at.progress) after) input' × (line' ≡ line)
    pub takes_in : 0 < before.progress.left → (input' ≡ input) × AfterFill before after input' line line' out out'

  -- The end of the loop.
  pub record AfterLast (before : At A) (after : Ran A) (line line' out out' : List ℕ) : Type 0 where
    pub taken : (after, line', out') ≡ last_at before (rule.last_of before.work line out)
    pub within : (rule.last_of before.work line out).0.written ≤ length out'

  -- ---- The whole loop

  -- What a loop in which nothing failed has done: there are parts of an input, and what was made ready and the work that it leaves are those of all
  -- of them, as one. So many bytes were made ready as that text has, behind those before it; and it stopped at the end of the input, or where a
  -- refusal ended the reading. (That the parts are those that the reads left, one after the other, is how `all` makes them; `Through` by itself
  -- would also be met by a loop that reads nothing.)
  pub record Through (before : ℕ) (comes : List ℕ → Come A) (ran : Ran A) : Type 0 where
    pub parts : List (List ℕ)
    pub text : List ℕ
    pub whole : comes (input_of parts) ≡ (text, ran.work)
    pub counted : ran.put ≡ (before + length text) % 2 ^ 64
    pub over : T (ran.end || rule.is_ended ran.work)

  -- The whole run of a task from a controller over some parts, where nothing failed.
  abbrev pub RanFrom : State → Option (Ran A) → Type 0
  RanFrom state ran = IfSome ran (Through 0 (whole_of rule state))
