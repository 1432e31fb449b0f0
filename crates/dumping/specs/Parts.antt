-- The same by parts, one row a call or as many as there is room for: what is written of a row, and what a call gives, with the line buffer and
-- the output buffer that are lent.
-- Assumes nothing.
use Rattle.std.specs.Prelude.{refl, ◌≡◌, ℕ, ◌+◌, Bool, false, cond, List, [], replicate, ◌==◌}
use Rattle.controller.specs.declared.State.{State}
use Rattle.controller.specs.Start.{fresh_of}
use Rattle.controller.specs.Stages.{elapsed_of}
use Rattle.reading.specs.declared.Reading.{Reading}
use Rattle.reading.specs.declared.Came.{Came}
use Rattle.reading.specs.declared.Came.TheVariants.{Nothing, Answered, Refused}
use Rattle.reading.specs.Parts.{run_from}
use Rattle.reading.specs.Runs.{Teller, in_rows, Answer, take_by, finish_by, in_all}
use Rattle.reading.specs.Fills.{fill_by}
use Rattle.dump.specs.declared.Dump.{Dump}
use Rattle.dump.specs.Wires.{wires}
use Rattle.dump.specs.Dumps.{head_text, head_length}
use Rattle.dump.specs.Writes.{starts_with, text_after, no_time}
use Rattle.dumping.specs.declared.Waves.{Waves}
use Rattle.dumping.specs.Answers.{Took}
use Rattle.dumping.specs.Moments.{wires_of}

-- ---- What is written of a row

-- The dump after a row, and the text that is written of it.
abbrev pub Given : Type 0
Given = Dump × List ℕ

-- A moment so many ms later. (No trace reaches 2 ^ 64: proofs/Law.antt. There the writer would refuse, and nothing is written.)
unfoldable pub later : Dump → ℕ → List Bool → Given
later dump elapsed values =
    cond (no_time dump elapsed) (dump, [])
    (record { time = dump.time + elapsed; values = values }, text_after dump elapsed values)

-- Row 0 starts the dump with its head; an accepted row is a moment, so long after the stamp before it; of any other row nothing is written.
abbrev pub given_by : Came → Dump → ℕ → State → Given
given_by Nothing dump before after = (dump, [])
given_by (Answered label code) dump before after =
    cond (label == 0) (starts_with (wires_of after), head_text (wires_of after))
    (cond (code == 0) (later dump (elapsed_of before after.stamp) (wires_of after))
    (dump, []))
given_by (Refused line refusal) dump before after = (dump, [])

-- What is made of a row: the dump is carried on from row to row.
unfoldable pub given : Teller Dump
given dump before came after = given_by came dump before.stamp after

-- Of what comes to nothing nothing is written.
pub nothing_told : (dump : Dump) (before after : State) → given dump before Nothing after ≡ (dump, [])
unfolding given
nothing_told dump before after = refl

-- The rows one after the other, and the end of the input.
unfoldable pub from_rows : Reading → Dump → List (List ℕ) → List ℕ
from_rows reading dump rows = (in_rows given dump reading rows).0

-- ---- A call

-- At the start nothing is read, and no dump is begun. (Row 0 begins it; until then this one is not used.) The controller is the one to
-- go on with.
unfoldable pub begun_from : State → Waves
begun_from state = record { run = run_from state; dump = starts_with (replicate wires false) }

-- A lesson that was not handed over starts from a fresh controller.
unfoldable pub new_waves : Waves
new_waves = begun_from (fresh_of 0)

-- The head of a dump has 1,078 bytes, and a moment at most 100.
abbrev pub room : ℕ
room = head_length

abbrev pub took_of : Answer Dump → Took × List ℕ × List ℕ
took_of answer = (
  record {
    waves = record { run = answer.0.run; dump = answer.0.carried };
    used = answer.0.used;
    written = answer.0.written;
    refusal = answer.0.refusal;
  },
  answer.1,
  answer.2,
)

-- A part of the input.
unfoldable pub take_of : Waves → List ℕ → List ℕ → List ℕ → Took × List ℕ × List ℕ
take_of waves part line out = took_of (take_by given room waves.dump waves.run part line out)

-- The end of the input.
unfoldable pub finish_of : Waves → List ℕ → List ℕ → Took × List ℕ × List ℕ
finish_of waves line out = took_of (finish_by given room waves.dump waves.run line out)

-- ---- A whole part

-- What was given so far, as an answer.
abbrev pub answer_of : Took → List ℕ → List ℕ → Answer Dump
answer_of took line out = (
  record {
    run = took.waves.run;
    carried = took.waves.dump;
    used = took.used;
    written = took.written;
    refusal = took.refusal;
  },
  line,
  out,
)

-- The part row by row, as far as there is room.
unfoldable pub fill_of : Waves → List ℕ → List ℕ → List ℕ → Took × List ℕ × List ℕ
fill_of waves part line out = took_of (fill_by given room waves.dump waves.run part line out)

-- ---- All calls

-- Each turn of a run is a call of `take` or `finish`: `take_of` and `finish_of` are what `in_all` goes by, in the fields of the answer.
-- What is written in all from a run and a line buffer on, with an output buffer for each turn.
abbrev pub written_in_all : (ℕ → List ℕ) → Waves → List ℕ → List (List ℕ) → List ℕ
written_in_all lends waves line parts = (in_all given room lends waves.dump waves.run line parts).0
