-- What a row of the trace comes to, as the dump sees it: it adds no moment, or it starts the dump, or it adds a moment. A row that is
-- answered bears the label that is due, so row 0 comes once; and from row 0 on the time of the last moment is at most 100 ms for each
-- label, which is far below 2 ^ 64.
-- Assumes nothing.
use Rattle.std.specs.Prelude.{Option, Some, None}
use Rattle.std.proofs.Common.{◌≡◌, ℕ, zero, suc, ◌+◌, ◌*◌, ◌^◌, ◌<◌, ◌≤◌, Bool, true, false, eqb, ltb, List, [], ◌∷◌, length, refl, add-one, arith, lit≤, ltb-true, ne_eqb, eqb-true}
use borrow.Author.Tests.{lt-leb}
use Rattle.common.specs.Answers.{Answer as RowAnswer, gives, refuses}
use Rattle.lines.proofs.Steps.{either}
use Rattle.trace.specs.Numbers.{greatest}
use Rattle.trace.specs.Rows.{read_row}
use Rattle.trace.proofs.Laws.{what_is_taken_is_of_the_form}
use Rattle.controller.specs.declared.State.{State}
use Rattle.controller.specs.Answers.{Answer}
use Rattle.controller.specs.Start.{started_at}
use Rattle.controller.specs.Stages.{elapsed_of, accepted}
use Rattle.controller.specs.Steps.{limit, step_of}
use Rattle.controller.specs.Lamps.{lights_of, shown_of, values_of}
use Rattle.reading.specs.declared.Phase.{Phase}
use Rattle.reading.specs.declared.Phase.TheVariants.{Header, Rows, Ended}
use Rattle.reading.specs.declared.Reading.{Reading}
use Rattle.reading.specs.declared.Heard.{Heard}
use Rattle.reading.specs.Runs.{told_of}
use Rattle.reading.specs.Rows.{next_due, line_of, untold, ends_at, answer_to, shown_row, no_sample, trace_row, row_of}
use Rattle.reading.specs.Whole.{is_answered}
use Rattle.reading.proofs.FirstRow.{by_first_row}
use Rattle.dump.specs.declared.Dump.{Dump}
use Rattle.dump.specs.Wires.{wires}
use Rattle.dump.specs.Dumps.{Moment, head_text, moment_text}
use Rattle.dump.specs.Writes.{starts_with}
use Rattle.dumping.specs.Moments.{wires_of, at, adds}
use Rattle.dumping.specs.Parts.{later, given}
use Rattle.dumping.proofs.Steps.{InTime, accepted_in_time, step_taken}

-- ---- What a row of the trace is read as

-- It ends the reading, or it bears the label that is due, and is answered.
pub data Read (due : Option ℕ) (state : State) (heard : Heard) : Type 0 where
  ends : (line refusal : ℕ) → heard ≡ ends_at line refusal state → Read due state heard
  shows : (label stamp : ℕ) (sample : List ℕ) → due ≡ Some label → label ≤ greatest
      → heard ≡ shown_row due label (answer_to state label stamp sample)
      → Read due state heard

read_as : (due : Option ℕ) (state : State) (row : List ℕ) (answer : RowAnswer (ℕ × ℕ)) (sample : List ℕ)
    → read_row row due no_sample ≡ (answer, sample)
    → Read due state (trace_row due state row)
unfolding trace_row
read_as due state row (gives head) sample e =
    let t = what_is_taken_is_of_the_form row due no_sample head.0 head.1 sample e in
    shows head.0 head.1 sample t.was_due t.in_form.label_fits (rw e)
read_as due state row (refuses n) sample e = ends (line_of due) n (rw e)

pub row_read : (due : Option ℕ) (state : State) (row : List ℕ) → Read due state (trace_row due state row)
row_read due state row = read_as due state row (read_row row due no_sample).0 (read_row row due no_sample).1 refl

-- ---- Rows that add no moment

-- Nothing is written of it, and no moment is added.
pub record Quiet (dump : Dump) (before : Reading) (heard : Heard) : Type 0 where
  pub told : told_of given dump before heard ≡ (dump, [])
  pub none : adds dump.time before heard ≡ []

pub untold_quiet : (dump : Dump) (before reading : Reading) → Quiet dump before (untold reading)
unfolding given adds
untold_quiet dump before reading = record { told = refl; none = refl }

pub ended_quiet : (dump : Dump) (before : Reading) (line refusal : ℕ) (state : State) → Quiet dump before (ends_at line refusal state)
unfolding given adds ends_at
ended_quiet dump before line refusal state = record { told = refl; none = refl }

-- A label after 0.
not_0 : (n : ℕ) → eqb (suc n) 0 ≡ false
not_0 n = ne_eqb (suc n) 0 (λ z. omega arith)

-- A row after row 0 that the controller refuses.
refused_quiet : (dump : Dump) (before : Reading) (due : Option ℕ) (n : ℕ) (answer : Answer) → eqb answer.refusal 0 ≡ false
    → Quiet dump before (shown_row due (suc n) answer)
unfolding given adds shown_row
refused_quiet dump before due n answer e = record { told = rw (not_0 n, e); none = rw (not_0 n, e) }

-- ---- Rows that add a moment

-- There is a value for each wire.
pub a_value_each : (s : State) → length (wires_of s) ≡ wires
unfolding wires_of values_of
a_value_each s = refl

-- A later moment is added, and written.
pub record Moved (dump : Dump) (before : Reading) (heard : Heard) : Type 0 where
  pub moment : Moment
  pub rises : dump.time < moment.time
  pub soon : moment.time ≤ dump.time + limit
  pub fits : moment.time < 2 ^ 64
  pub wide : length moment.values ≡ wires
  pub told : told_of given dump before heard
      ≡ (record { time = moment.time; values = moment.values }, moment_text dump.values moment)
  pub one : adds dump.time before heard ≡ moment ∷ []

-- There is such a time.
later_told : (dump : Dump) (elapsed : ℕ) (values : List Bool) → 0 < elapsed → dump.time + elapsed < 2 ^ 64
    → later dump elapsed values
    ≡ (
      record { time = dump.time + elapsed; values = values },
      moment_text dump.values (record { time = dump.time + elapsed; values = values }),
    )
unfolding later
later_told dump elapsed values some_ms fits =
    simp (ne_eqb elapsed 0 (λ z. omega arith), lt-leb (2 ^ 64) (dump.time + elapsed) fits)

taken_moved : (dump : Dump) (before : Reading) (due : Option ℕ) (n : ℕ) (after : State)
    → suc n ≤ greatest
    → dump.time ≤ limit * n
    → InTime (elapsed_of before.state.stamp after.stamp)
    → Moved dump before (shown_row due (suc n) (record { refusal = 0; state = after }))
unfolding given adds shown_row
taken_moved dump before due n after label few in_time_lem =
    let elapsed = elapsed_of before.state.stamp after.stamp in
    let below : dump.time + elapsed < 2 ^ 64 = omega arith in
    record {
      moment = at (dump.time + elapsed) after;
      rises = omega arith;
      soon = omega arith;
      fits = below;
      wide = a_value_each after;
      told = rw (not_0 n) (later_told dump elapsed (wires_of after) in_time_lem.some_ms below);
      one = rw (not_0 n);
    }

-- ---- From row 0 on

-- How far a reading may be behind row 0, with the time of the last moment: at most 100 ms for each label.
abbrev pub Running : Phase → ℕ → Type 0
Running Header time = ⊥
Running (Rows (Some zero)) time = ⊥
Running (Rows (Some (suc n))) time = (suc n ≤ greatest) × (time ≤ limit * n)
Running (Rows None) time = Unit {0}
Running (Ended line refusal) time = Unit {0}

next_running : (n time : ℕ) → time ≤ limit * n + limit → Running (Rows (next_due (Some (suc n)))) time
next_running n time few =
    either (ltb (suc n) greatest)
    (λ t. let below : suc n < greatest = ltb-true (suc n) greatest t in rw (t, add-one) (omega arith, omega arith))
    (λ t. rw t Prim.tt)

-- A row adds no moment, or it adds one; and so it goes on.
pub data Turn (dump : Dump) (before : Reading) (heard : Heard) : Type 0 where
  stays : Quiet dump before heard → Running heard.reading.phase dump.time → Turn dump before heard
  moves : (m : Moved dump before heard) → Running heard.reading.phase m.moment.time → Turn dump before heard

ended_turn : (dump : Dump) (before : Reading) (line refusal : ℕ) (state : State) → Turn dump before (ends_at line refusal state)
unfolding ends_at
ended_turn dump before line refusal state = stays (ended_quiet dump before line refusal state) Prim.tt

answered_turn : (dump : Dump) (before : Reading) (n stamp : ℕ) (sample : List ℕ) → suc n ≤ greatest → dump.time ≤ limit * n
    → Turn dump before (shown_row (Some (suc n)) (suc n) (answer_to before.state (suc n) stamp sample))
unfolding answer_to shown_row
answered_turn dump before n stamp sample label few =
    let s = before.state in
    rw (not_0 n)
    (either (eqb (step_of s stamp sample).refusal 0)
    (λ t. let e = eqb-true (step_of s stamp sample).refusal 0 t in
    let m = taken_moved dump before (Some (suc n)) n (accepted s stamp sample) label few (accepted_in_time s stamp sample e) in
    rw (step_taken s stamp sample e) (moves m (next_running n m.moment.time (omega arith))))
    (λ t. stays (refused_quiet dump before (Some (suc n)) n (step_of s stamp sample) t) (next_running n dump.time (omega arith))))

-- Behind row 0 a row bears a later label, or it ends the reading.
read_turn : (dump : Dump) (n : ℕ) (state : State) (heard : Heard) → suc n ≤ greatest → dump.time ≤ limit * n
    → Read (Some (suc n)) state heard
    → Turn dump (record { phase = Rows (Some (suc n)); state = state }) heard
read_turn dump n state heard label few (ends line refusal e) = rw e (ended_turn dump _ line refusal state)
read_turn dump n state heard label few (shows l stamp sample due fits e) =
    let same : l ≡ suc n = cc in rw (e, same) (answered_turn dump _ n stamp sample label few)

-- After the last label every row ends the reading.
none_due : (dump : Dump) (state : State) (heard : Heard) → Read None state heard
    → Turn dump (record { phase = Rows None; state = state }) heard
none_due dump state heard (ends line refusal e) = rw e (ended_turn dump _ line refusal state)
none_due dump state heard (shows l stamp sample due fits e) = let z : ◌≡◌ {A = ℕ} 0 1 = cc in absurd (omega arith)

turn_in : (phase : Phase) (state : State) (dump : Dump) (row : List ℕ) → Running phase dump.time
    → Turn dump (record { phase = phase; state = state }) (row_of (record { phase = phase; state = state }) row)
unfolding row_of
turn_in Header state dump row r = absurd r
turn_in (Rows (Some zero)) state dump row r = absurd r
turn_in (Rows (Some (suc n))) state dump row r = read_turn dump n state _ r.0 r.1 (row_read (Some (suc n)) state row)
turn_in (Rows None) state dump row r = none_due dump state _ (row_read None state row)
turn_in (Ended line refusal) state dump row r = stays (untold_quiet dump _ _) Prim.tt

pub turn : (reading : Reading) (dump : Dump) (row : List ℕ) → Running reading.phase dump.time
    → Turn dump reading (row_of reading row)
turn reading dump row r = turn_in reading.phase reading.state dump row r

-- ---- Up to row 0

-- What a controller shows does not depend on its stamp.
same_wires : (stamp : ℕ) (s : State) → wires_of (started_at stamp s) ≡ wires_of s
unfolding wires_of shown_of lights_of values_of started_at
same_wires stamp s = refl

-- The start is added, with what the controller shows, and its head is written.
pub record Started (dump : Dump) (before : Reading) (heard : Heard) : Type 0 where
  pub answered : is_answered heard.came ≡ true
  pub told : told_of given dump before heard ≡ (starts_with (wires_of before.state), head_text (wires_of before.state))
  pub one : adds dump.time before heard ≡ at 0 before.state ∷ []
  pub running : Running heard.reading.phase 0

row_0_started : (dump : Dump) (before : Reading) (stamp : ℕ) (sample : List ℕ)
    → Started dump before (shown_row (Some 0) 0 (answer_to before.state 0 stamp sample))
unfolding answer_to shown_row given adds
row_0_started dump before stamp sample =
    let same = same_wires stamp before.state in
    record { answered = refl; told = rw same; one = rw same; running = (lit≤ tt, lit≤ tt) }

-- Where row 0 is due, a row is row 0, or it ends the reading.
pub data FirstTurn (dump : Dump) (before : Reading) (heard : Heard) : Type 0 where
  ends : (line refusal : ℕ) → heard ≡ ends_at line refusal before.state → FirstTurn dump before heard
  starts : Started dump before heard → FirstTurn dump before heard

read_first : (dump : Dump) (before : Reading) (heard : Heard) → Read (Some 0) before.state heard → FirstTurn dump before heard
read_first dump before heard (ends line refusal e) = ends line refusal e
read_first dump before heard (shows l stamp sample due fits e) =
    let same : l ≡ 0 = cc in starts (rw (e, same) (row_0_started dump before stamp sample))

pub first_turn : (dump : Dump) (state : State) (row : List ℕ)
    → FirstTurn dump (record { phase = Rows (Some 0); state = state })
    (row_of (record { phase = Rows (Some 0); state = state }) row)
unfolding row_of
first_turn dump state row = read_first dump _ _ (row_read (Some 0) state row)

-- The first row is the header, after which row 0 is due, or it ends the reading.
pub data HeaderTurn (state : State) (heard : Heard) : Type 0 where
  ends : (line refusal : ℕ) → heard ≡ ends_at line refusal state → HeaderTurn state heard
  opens : heard ≡ untold (record { phase = Rows (Some 0); state = state }) → HeaderTurn state heard

pub header_turn : (state : State) (row : List ℕ) → HeaderTurn state (row_of (record { phase = Header; state = state }) row)
unfolding row_of
header_turn state row = by_first_row (HeaderTurn state) state row (λ refusal. ends 1 refusal refl) (opens refl)
