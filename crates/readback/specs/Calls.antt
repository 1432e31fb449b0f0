-- Request K2: the reader over calls. What an answer of a call says of the reading that it is a part of, and what all calls give for a
-- dump that is cut into parts, each call with a buffer of its own for the values.
-- Assumes nothing.
use Rattle.std.specs.Prelude.{ℕ, zero, suc, ◌+◌, ◌<◌, ◌≤◌, Bool, cond, List, [], ◌∷◌, ◌++◌, map, ◌≡◌, eqb, length, drop}
use Rattle.common.specs.Answers.{Answer, gives, refuses}
use Rattle.dump.specs.Wires.{wires}
use Rattle.dump.specs.Dumps.{Moment}
use Rattle.readback.specs.declared.Reader.{Reader}
use Rattle.readback.specs.Answers.{Took}
use Rattle.readback.specs.Bytes.{new_reader, byte_of}
use Rattle.readback.specs.Reads.{is_bad, complete, begins, moment_of, before, read_from, bits, take_of, finish_of}

-- ---- Up to the byte that is refused

-- How many bytes are read: those in front of the byte that is refused, or all.
unfoldable pub read_up_to : Reader → List ℕ → ℕ
read_up_to r [] = 0
read_up_to r (b ∷ bytes) = cond (is_bad (byte_of r b).place) 0 (suc (read_up_to (byte_of r b) bytes))

-- What is given: moments, and then 0, or 9 where the bytes are no dump.
abbrev pub Given : Type 0
Given = List Moment × ℕ

-- A moment, and then the others.
abbrev pub ahead : Moment → Given → Given
ahead m others = (m ∷ others.0, others.1)

-- All moments of a dump; of what is no dump, those behind which the next one has begun in front of the byte that is refused. (A moment is given
-- when the next one begins, or at the end of a dump.)
unfoldable pub given_from : Reader → List ℕ → Given
given_from r [] = cond (complete r) (moment_of r ∷ [], 0) ([], 9)
given_from r (b ∷ bytes) =
    cond (is_bad (byte_of r b).place) ([], 9)
    (cond (begins r b) (ahead (moment_of r) (given_from (byte_of r b) bytes)) (given_from (byte_of r b) bytes))

unfoldable pub given_of : List ℕ → Given
given_of bytes = given_from new_reader bytes

-- As the answer of a whole reading: a dump gives its moments, and what is no dump gives 9 alone.
abbrev pub answered : Given → Answer (List Moment)
answered given = cond (eqb given.1 0) (gives given.0) (refuses given.1)

-- ---- What an answer says

-- The part is used up: the reading goes on with what follows it, and the buffer is as it was.
pub record UsedUp (r : Reader) (part values : List ℕ) (answer : Took × List ℕ) : Type 0 where
  pub whole : answer.0.used ≡ length part
  pub buffer : answer.1 ≡ values
  pub onward : (rest : List ℕ) → read_from r (part ++ rest) ≡ read_from answer.0.reader rest

-- A moment is given, its values in the buffer: it is the next of the reading, which goes on behind what is used of the part.
pub record GivesNext (r : Reader) (part : List ℕ) (answer : Took × List ℕ) : Type 0 where
  pub values : List Bool
  pub buffer : answer.1 ≡ bits values
  pub forth : 0 < answer.0.used
  pub inside : answer.0.used ≤ length part
  pub onward : (rest : List ℕ)
      → read_from r (part ++ rest)
      ≡ before (record { time = answer.0.time; values = values }) (read_from answer.0.reader (drop answer.0.used part ++ rest))

-- 9: whatever follows is refused, at the byte behind those that are used, and reader and buffer are as they were.
pub record RefusesAll (r : Reader) (part values : List ℕ) (answer : Took × List ℕ) : Type 0 where
  pub kept : answer.0.reader ≡ r
  pub buffer : answer.1 ≡ values
  pub inside : answer.0.used < length part
  pub there : (rest : List ℕ) → read_up_to r (part ++ rest) ≡ answer.0.used
  pub onward : (rest : List ℕ) → read_from r (part ++ rest) ≡ refuses 9

-- How much a call uses that is not refused: no more than the part, and some of it where it is not empty.
pub record UsesSome (part : List ℕ) (took : Took) : Type 0 where
  pub inside : took.used ≤ length part
  pub forth : 0 < length part → 0 < took.used

-- At the end the last moment is given, its values in the buffer: the reading ends with it.
pub record GivesLast (r : Reader) (answer : Took × List ℕ) : Type 0 where
  pub values : List Bool
  pub buffer : answer.1 ≡ bits values
  pub all : read_from r [] ≡ gives (record { time = answer.0.time; values = values } ∷ [])

-- ---- All calls

-- The dump: all parts as one.
abbrev pub dump_in : List (List ℕ) → List ℕ
dump_in [] = []
dump_in (part ∷ parts) = part ++ dump_in parts

-- The moment that a call gives: its time, and its values as the lent buffer has them.
abbrev pub moment_in : Took × List ℕ → Moment
moment_in answer = record { time = answer.0.time; values = map (λ (b : ℕ). eqb b 1) answer.1 }

-- What a call gives, and then the others. After a refusal there is no other.
abbrev pub heard : Took × List ℕ → Given → Given
heard answer others =
    cond (eqb answer.0.refusal 0) (cond answer.0.given (ahead (moment_in answer) others) others) ([], answer.0.refusal)

-- What at most so many turns give: a call of `take` for what is left of the first part, or the next part where nothing is left of it, or
-- the call of `finish` where there is none. `lends` has the values' buffer of each turn.
unfoldable pub in_turns : (ℕ → List ℕ) → ℕ → Reader → List (List ℕ) → Given
in_turns lends zero r parts = ([], 0)
in_turns lends (suc turns) r [] = heard (finish_of r (lends turns)) ([], 0)
in_turns lends (suc turns) r ([] ∷ parts) = in_turns lends turns r parts
in_turns lends (suc turns) r ((b ∷ part) ∷ parts) =
    heard (take_of r (b ∷ part) (lends turns))
    (in_turns lends turns (take_of r (b ∷ part) (lends turns)).0.reader
    (drop (take_of r (b ∷ part) (lends turns)).0.used (b ∷ part) ∷ parts))

-- So many turns are enough: one for each byte, one for each part, and one for the end.
abbrev pub turns_for : List (List ℕ) → ℕ
turns_for [] = 1
turns_for (part ∷ parts) = length part + 1 + turns_for parts

-- A whole dump, with enough turns.
abbrev pub in_calls : (ℕ → List ℕ) → List (List ℕ) → Given
in_calls lends parts = in_turns lends (turns_for parts) new_reader parts

-- Every buffer that is lent has 26 bytes.
abbrev pub AllWide : (ℕ → List ℕ) → Type 0
AllWide lends = (turn : ℕ) → length (lends turn) ≡ wires
