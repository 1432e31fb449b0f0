-- What is written from a reading on is the dump of the moments to come, and their times rise: before row 0 the whole dump, and from
-- row 0 on what follows the moments so far. By induction over the rows.
-- Assumes nothing.
use Rattle.std.specs.Prelude.{Some}
use Rattle.std.proofs.Common.{◌≡◌, ℕ, Bool, true, false, List, [], ◌∷◌, ◌++◌, refl, ap}
use Rattle.controller.specs.declared.State.{State}
use Rattle.reading.specs.declared.Phase.{Phase}
use Rattle.reading.specs.declared.Phase.TheVariants.{Header, Rows, Ended}
use Rattle.reading.specs.declared.Reading.{Reading}
use Rattle.reading.specs.Rows.{ends_at, row_of, end_of, read_from}
use Rattle.reading.specs.Whole.{is_answered, some_answered}
use Rattle.reading.specs.Runs.{told_of, Outcome, in_rows}
use Rattle.reading.specs.Ends.{Silent}
use Rattle.reading.proofs.ByParts as by
use Rattle.reading.proofs.Ends.{after_refusal}
use Rattle.dump.specs.declared.Dump.{Dump}
use Rattle.dump.specs.Dumps.{Moment, RisesFrom, Rising, head_text, moment_text, later_text, dump_of}
use Rattle.dump.specs.Writes.{starts_with}
use Rattle.dumping.specs.Moments.{wires_of, adds, time_after, moments_after, StartWith}
use Rattle.dumping.specs.Parts.{Given, given, nothing_told, from_rows}
use Rattle.dumping.proofs.RowZero.{none_answered}
use Rattle.dumping.proofs.Turns.{
  Quiet,
  untold_quiet,
  ended_quiet,
  a_value_each,
  Running,
  Turn,
  turn,
  Started,
  FirstTurn,
  first_turn,
  HeaderTurn,
  header_turn,
}
use Rattle.dumping.proofs.Turns.Turn.{stays, moves}
use Rattle.dumping.proofs.Turns.FirstTurn.{ends, starts}
use Rattle.dumping.proofs.Turns.HeaderTurn.{ends as fails, opens}

-- ---- One row more

module _ (reading : Reading) (dump : Dump) (row : List ℕ) (rows : List (List ℕ)) where
  -- The text of a row, and then what is written from the dump after it on.
  row_text_lem : {after : Dump} {text : List ℕ} → told_of given dump reading (row_of reading row) ≡ (after, text)
      → from_rows reading dump (row ∷ rows) ≡ text ++ from_rows (row_of reading row).reading after rows
  unfolding from_rows in_rows
  row_text_lem e = rw e

  -- The moments that a row adds, and then those after them.
  row_moments : {ms : List Moment} → adds dump.time reading (row_of reading row) ≡ ms
      → moments_after dump.time reading (row ∷ rows) ≡ ms ++ moments_after (time_after dump.time ms) (row_of reading row).reading rows
  unfolding moments_after
  row_moments e = rw e

-- Of the end of the input nothing is written.
end_in : (phase : Phase) (state : State) (dump : Dump) → told_of given dump (record { phase = phase; state = state }) (end_of (record { phase = phase; state = state })) ≡ (dump, [])
unfolding end_of given ends_at
end_in Header state dump = refl
end_in (Rows due) state dump = refl
end_in (Ended line refusal) state dump = refl

pub end_told : (reading : Reading) (dump : Dump) → told_of given dump reading (end_of reading) ≡ (dump, [])
end_told reading dump = end_in reading.phase reading.state dump

pub end_text : (reading : Reading) (dump : Dump) → from_rows reading dump [] ≡ []
unfolding from_rows in_rows
end_text reading dump = ap (λ (g : Given). g.1) (end_told reading dump)

-- ---- From row 0 on

-- What is written is what follows the moments so far, and the times rise.
record Onward (reading : Reading) (dump : Dump) (rows : List (List ℕ)) : Type 0 where
  text : from_rows reading dump rows ≡ later_text dump.values (moments_after dump.time reading rows)
  rise : RisesFrom dump.time (moments_after dump.time reading rows)

at_end : (reading : Reading) (dump : Dump) → Onward reading dump []
unfolding moments_after later_text
at_end reading dump = record { text = end_text reading dump; rise = Prim.tt }

-- One row, where it goes on so from any reading behind it.
one_more : (reading : Reading) (dump : Dump) (row : List ℕ) (rows : List (List ℕ)) → Turn dump reading (row_of reading row)
    → ((reading' : Reading) (dump' : Dump) → Running reading'.phase dump'.time → Onward reading' dump' rows)
    → Onward reading dump (row ∷ rows)
unfolding later_text
one_more reading dump row rows (stays q r) on =
    let k = on (row_of reading row).reading dump r in
    record {
      text = rw (row_text_lem reading dump row rows q.told, row_moments reading dump row rows q.none) k.text;
      rise = rw (row_moments reading dump row rows q.none) k.rise;
    }
one_more reading dump row rows (moves m r) on =
    let d : Dump = record { time = m.moment.time; values = m.moment.values } in
    let k = on (row_of reading row).reading d r in
    record {
      text =
          rw (row_text_lem reading dump row rows m.told, row_moments reading dump row rows m.one)
          (ap (λ (l : List ℕ). moment_text dump.values m.moment ++ l) k.text);
      rise = rw (row_moments reading dump row rows m.one) (m.rises, m.fits, m.wide, k.rise);
    }

onward : (rows : List (List ℕ)) (reading : Reading) (dump : Dump) → Running reading.phase dump.time → Onward reading dump rows
onward [] reading dump r = at_end reading dump
onward (row ∷ rows) reading dump r =
    one_more reading dump row rows (turn reading dump row r) (λ reading' dump' r'. onward rows reading' dump' r')

-- ---- Up to row 0

-- Where row 0 is read, the moments start with what the controller shows, and their times rise from 0; where it is not, there are none.
abbrev pub RiseIf : Bool → State → List Moment → Type 0
RiseIf false shows ms = ms ≡ []
RiseIf true shows ms = Rising ms × StartWith shows ms

-- What is written is the dump of all moments; and so they rise.
pub record Dumped (shows : State) (reading : Reading) (dump : Dump) (rows : List (List ℕ)) : Type 0 where
  pub text : from_rows reading dump rows ≡ dump_of (moments_after dump.time reading rows)
  pub rise : RiseIf (some_answered reading rows) shows (moments_after dump.time reading rows)

nothing_dumped : (shows : State) (reading : Reading) (dump : Dump) → Dumped shows reading dump []
unfolding moments_after some_answered dump_of
nothing_dumped shows reading dump = record { text = end_text reading dump; rise = refl }

-- Where the reading is at its end, nothing more is written, and there is no more moment.
pub nothing_more : (reading : Reading) (dump : Dump) → Silent reading → (rows : List (List ℕ)) → from_rows reading dump rows ≡ []
unfolding from_rows
nothing_more reading dump s rows = ap (λ (o : Outcome Dump). o.0) (by.nothing_more given nothing_told dump reading s rows)

pub no_moments : (reading : Reading) (time : ℕ) → Silent reading → (rows : List (List ℕ)) → moments_after time reading rows ≡ []
unfolding moments_after adds
no_moments reading time s [] = refl
no_moments reading time s (row ∷ rows) = rw (s.at_row row) (no_moments reading time s rows)

-- A row that adds nothing.
quiet_dumped : (shows : State) (reading : Reading) (dump : Dump) (row : List ℕ) (rows : List (List ℕ))
    → is_answered (row_of reading row).came ≡ false
    → Quiet dump reading (row_of reading row)
    → Dumped shows (row_of reading row).reading dump rows
    → Dumped shows reading dump (row ∷ rows)
unfolding some_answered
quiet_dumped shows reading dump row rows none q k =
    let e = row_moments reading dump row rows q.none in
    record { text = rw (row_text_lem reading dump row rows q.told, e) k.text; rise = rw (e, none) k.rise }

-- A row that ends the reading.
at_its_end : (shows : State) (line refusal : ℕ) (state : State) (dump : Dump) (rows : List (List ℕ))
    → Dumped shows (ends_at line refusal state).reading dump rows
unfolding ends_at dump_of
at_its_end shows line refusal state dump rows =
    let s = after_refusal (ends_at line refusal state).reading line refusal refl in
    let none = no_moments _ dump.time s rows in
    record { text = rw (nothing_more _ dump s rows, none); rise = rw (none_answered _ s rows) none }

ended_dumped : (shows : State) (reading : Reading) (dump : Dump) (row : List ℕ) (rows : List (List ℕ)) (line refusal : ℕ) (state : State)
    → row_of reading row ≡ ends_at line refusal state
    → Dumped shows reading dump (row ∷ rows)
unfolding ends_at
ended_dumped shows reading dump row rows line refusal state e =
    quiet_dumped shows reading dump row rows (rw e) (rw e (ended_quiet dump reading line refusal state))
    (rw e (at_its_end shows line refusal state dump rows))

-- Row 0, and then the rows behind it.
started_dumped : (reading : Reading) (dump : Dump) (row : List ℕ) (rows : List (List ℕ)) → Started dump reading (row_of reading row)
    → Dumped reading.state reading dump (row ∷ rows)
unfolding dump_of some_answered
started_dumped reading dump row rows s =
    let values = wires_of reading.state in
    let e = row_moments reading dump row rows s.one in
    let k = onward rows (row_of reading row).reading (starts_with values) s.running in
    record {
      text = rw (row_text_lem reading dump row rows s.told, e) (ap (λ (l : List ℕ). head_text values ++ l) k.text);
      rise = rw (e, s.answered) ((refl, a_value_each reading.state, k.rise), refl);
    }

-- Where row 0 is due.
from_row_0 : (state : State) (dump : Dump) (rows : List (List ℕ)) → Dumped state (record { phase = Rows (Some 0); state = state }) dump rows
from_row_0 state dump [] = nothing_dumped state _ dump
from_row_0 state dump (row ∷ rows) = by_turn (first_turn dump state row) where
  reading : Reading
  reading = record { phase = Rows (Some 0); state = state }

  by_turn : FirstTurn dump reading (row_of reading row) → Dumped state reading dump (row ∷ rows)
  by_turn (ends line refusal e) = ended_dumped state reading dump row rows line refusal state e
  by_turn (starts s) = started_dumped reading dump row rows s

-- Where the header is due: from any controller.
pub from_header : (state : State) (dump : Dump) (rows : List (List ℕ)) → Dumped state (read_from state) dump rows
from_header state dump [] = nothing_dumped state _ dump
from_header state dump (row ∷ rows) = by_turn (header_turn state row) where
  by_turn : HeaderTurn state (row_of (read_from state) row) → Dumped state (read_from state) dump (row ∷ rows)
  by_turn (fails line refusal e) = ended_dumped state (read_from state) dump row rows line refusal state e
  by_turn (opens e) =
      quiet_dumped state (read_from state) dump row rows (rw e) (rw e (untold_quiet dump (read_from state) _))
      (rw e (from_row_0 state dump rows))
