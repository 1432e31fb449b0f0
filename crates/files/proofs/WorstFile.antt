-- Demand 3 of a file is not empty: the run that settles at the bound is a stretch of a file of `replay`. One row earlier it is not settled,
-- so of the rows of files the stronger form holds with no lower number.
-- Assumes nothing.
use Rattle.std.specs.Prelude.{Option, Some}
use Prim.Native.Nat.{ℕ, ◌+◌, ◌≤◌, ◌<◌}
use native.Mathlib.Omega.{arith}
use mathlib.Core.Bool.{Bool, true, false, not}
use mathlib.Core.List.{List, [], ◌∷◌, ◌++◌, append_assoc}
use mathlib.Core.Path.{◌≡◌, refl, sym, ap, subst, subst⁻¹, ◌∙◌}
use borrow.Author.Tests.{eqb-true}
use lib.Dec.{T, leb→le}
use lib.ListN.{length}
use Rattle.trace.specs.Numbers.{greatest}
use Rattle.trace.specs.Header.{header_text as trace_header}
use Rattle.trace.specs.Written.{row_text as trace_row_text}
use Rattle.controller.specs.declared.State.{State}
use Rattle.controller.specs.Start.{fresh_of, started_at}
use Rattle.controller.specs.Lamps.{lights_of, shown_of}
use Rattle.controller.specs.Stages.{elapsed_of, anomaly}
use Rattle.controller.specs.Steps.{limit, step_of}
use Rattle.controller.specs.Samples.{sees, Row, after}
use Rattle.laws.specs.Bounds.{bound_for, bound}
use Rattle.laws.specs.Reached.Reached.{fresh}
use Rattle.laws.proofs.Computing.{runs}
use Rattle.settling.specs.Runs.{next, is_taken, Absorbers, Held, elapsed_in, elapsed_since}
use Rattle.settling.specs.Settled.{settled, settled_on, UnsettledIsEarly, is_settled}
use Rattle.settling.specs.WorstRuns.{rows_from, start, first_row, stretches, closed_at_last, late, latest, Shown, in_flight}
use Rattle.settling.proofs.Demand3.{goes_on, taken_and_held}
use Rattle.settling.proofs.Worst.{settles_at_the_bound}
use Rattle.reading.specs.declared.Phase.TheVariants.{Rows}
use Rattle.reading.specs.declared.Reading.{Reading}
use Rattle.reading.specs.declared.Came.TheVariants.{Answered}
use Rattle.reading.specs.declared.Heard.{Heard}
use Rattle.reading.specs.Rows.{untold, answer_to, shown_row, row_of, read_from}
use Rattle.reading.proofs.Starts.{behind_the_header}
use Rattle.common.specs.Lists.{Each}
use Rattle.files.specs.Told.{Told, told_of, told_from, told}
use Rattle.files.specs.Stretches.{elapsed_over, state_after, Stretch}
use Rattle.files.specs.Between.{Accepts, HeldAs, OfEveryFile, SettlesAt}
use Rattle.files.specs.Traces.{AllBearable, InOneTrace, rows_bearing, trace_bearing, due_behind}
use Rattle.files.proofs.Bearable.{all_bits, all_bearable, bearable_tested}
use Rattle.files.proofs.EachRow.{read_at}
use Rattle.files.proofs.Stretches.{stamp_of}
use Rattle.files.proofs.Traces.{row_read, a_step, next_due_lem, is_due, rows_of_trace}

-- ---- What is told of the rows of a trace in form

abbrev told_row : ℕ → State → Row → Told
told_row n s r =
    record {
      line = n + 2;
      row = trace_row_text n r.0 r.1;
      before = s;
      came = Answered n (step_of s r.0 r.1).refusal;
      after = next s r;
    }

abbrev told_rows : ℕ → State → List Row → List Told
told_rows n s [] = []
told_rows n s (r ∷ rs) = told_row n s r ∷ told_rows (n + 1) (next s r) rs

-- One row in front of others, by what it comes to.
told_step : (line : ℕ) (reading : Reading) (row : List ℕ) (rows : List (List ℕ)) (heard : Heard) → row_of reading row ≡ heard
    → told_from line reading (row ∷ rows) ≡ told_of line row reading heard ∷ told_from (line + 1) heard.reading rows
unfolding told_from
told_step line reading row rows heard e =
    ap (λ (h : Heard). told_of line row reading h ∷ told_from (line + 1) h.reading rows) e

-- Rows of the form, and what follows them.
abbrev Ahead : ℕ → State → List Row → Type 0
Ahead n s samples =
    (back : List Told) × (told_from (n + 2) (read_at (Rows (due_behind n)) s) (rows_bearing n samples) ≡ told_rows n s samples ++ back)

one_more : (n : ℕ) (s : State) (r : Row) (rs : List Row) → 0 < n → n ≤ greatest → AllBearable (r ∷ rs) → Ahead (n + 1) (next s r) rs
    → Ahead n s (r ∷ rs)
unfolding rows_bearing shown_row
one_more n s r rs later fits bears others =
    let rows = rows_bearing (n + 1) rs in
    let answer = step_of s r.0 r.1 in
    let heard = shown_row (Some n) n answer in
    let here = row_read n s r fits bears.0 ∙ ap (shown_row (Some n) n) (a_step n s r later) in
    let line : n + 2 + 1 ≡ n + 1 + 2 = omega arith in
    let t = told_row n s r in (
      others.0,
      ap (λ (d : Option ℕ). told_from (n + 2) (read_at (Rows d) s) (trace_row_text n r.0 r.1 ∷ rows)) (is_due n fits)
          ∙ told_step (n + 2) (read_at (Rows (Some n)) s) (trace_row_text n r.0 r.1) rows heard here
          ∙ ap (λ (d : Option ℕ). t ∷ told_from (n + 2 + 1) (read_at (Rows d) (next s r)) rows) (next_due_lem n fits)
          ∙ ap (λ (k : ℕ). t ∷ told_from k (read_at (Rows (due_behind (n + 1))) (next s r)) rows) line
          ∙ ap (λ (ts : List Told). t ∷ ts) others.1,
    )

all_ahead : (n : ℕ) (s : State) (samples : List Row) → 0 < n → n + length samples ≤ greatest + 1 → AllBearable samples → Ahead n s samples
unfolding rows_bearing
all_ahead n s [] later fits bears = (told_from (n + 2) (read_at (Rows (due_behind n)) s) [], refl)
all_ahead n s (r ∷ rs) later fits bears =
    one_more n s r rs later (omega arith) bears (all_ahead (n + 1) (next s r) rs (omega arith) (omega arith) bears.1)

-- Any samples of a trace in form, behind its row 0, are a stretch of its file.
module _ (s : State) (zeroth first : Row) (rest : List Row) (can : InOneTrace (zeroth ∷ first ∷ rest)) where
  abbrev from : State
  from = started_at zeroth.0 s

  stretch_of : Stretch s (trace_bearing (zeroth ∷ first ∷ rest)) (told_row 1 from first) (told_rows 2 (next from first) rest)
  unfolding told rows_bearing shown_row answer_to
  stretch_of =
      let opened = untold (read_at (Rows (Some 0)) s) in
      let header = told_of 1 trace_header (read_from s) opened in
      let row_0 = trace_row_text 0 zeroth.0 zeroth.1 in
      let others = rows_bearing 1 (first ∷ rest) in
      let heard = shown_row (Some 0) 0 (record { refusal = 0; state = from }) in
      let ahead = all_ahead 1 from (first ∷ rest) (omega arith) (omega (arith, can.labels)) can.each.1 in
      record {
        front = header ∷ told_of 2 row_0 (read_at (Rows (Some 0)) s) heard ∷ [];
        back = ahead.0;
        are =
            ap (told_from 1 (read_from s)) (rows_of_trace (zeroth ∷ first ∷ rest))
            ∙ told_step 1 (read_from s) trace_header (row_0 ∷ others) opened (behind_the_header s)
            ∙ ap (λ (ts : List Told). header ∷ ts)
            (told_step 2 (read_at (Rows (Some 0)) s) row_0 others heard (row_read 0 s zeroth (omega arith) can.each.0)
            ∙ ap (λ (ts : List Told). told_of 2 row_0 (read_at (Rows (Some 0)) s) heard ∷ ts) ahead.1);
      }

-- ---- A run with handle and absorbers held

is_true : (t : Bool) → T t → t ≡ true
is_true true h = refl
is_true false h = absurd h

module _ (down : Bool) (these : Absorbers) where
  is_taken_lem : (s : State) (r : Row) (rs : List Row) → Held down these s (r ∷ rs) → is_taken s r ≡ true
  is_taken_lem s r rs h = is_true (is_taken s r) (taken_and_held down these s r rs h).0

  all_held : (n : ℕ) (s : State) (samples : List Row) → Held down these s samples → Each (HeldAs down these) (told_rows n s samples)
  all_held n s [] h = tt
  all_held n s (r ∷ rs) h = ((taken_and_held down these s r rs h).1, all_held (n + 1) (next s r) rs (goes_on down these s r rs h))

  times : (n : ℕ) (s : State) (samples : List Row) → Held down these s samples → elapsed_over (told_rows n s samples) ≡ elapsed_in s samples
  unfolding elapsed_over elapsed_in
  times n s [] h = refl
  times n s (r ∷ rs) h =
      let others = times (n + 1) (next s r) rs (goes_on down these s r rs h) in
      let here : elapsed_of s.stamp (next s r).stamp ≡ elapsed_of s.stamp r.0 =
      ap (elapsed_of s.stamp) (stamp_of s r (is_taken_lem s r rs h)) in
      omega (arith, here, others)

  accepts : (s : State) (r : Row) (rs : List Row) → Held down these s (r ∷ rs) → Accepts (told_row 1 s r)
  unfolding is_taken
  accepts s r rs h = ((1, ap (Answered 1) (eqb-true (step_of s r.0 r.1).refusal 0 (is_taken_lem s r rs h))), λ e. omega arith)

after_last : (s : State) (rows : List Row) (r : Row) → after s (rows ++ r ∷ []) ≡ next (after s rows) r
unfolding after
after_last s [] r = refl
after_last s (q ∷ rows) r = after_last (next s q) rows r

states : (n : ℕ) (s : State) (samples : List Row) → state_after s (told_rows n s samples) ≡ after s samples
unfolding state_after after
states n s [] = refl
states n s (r ∷ rs) = states (n + 1) (next s r) rs

-- ---- The worst run

-- Row 0 gives the stamp that the run starts at.
zeroth : Row
zeroth = (1000, sees 1 0 1 0 1 0 0)

worst_bears : InOneTrace (zeroth ∷ first_row ∷ latest)
unfolding zeroth all_bits all_bearable runs rows_from stretches closed_at_last first_row latest
worst_bears =
    record { each = bearable_tested (zeroth ∷ first_row ∷ latest) tt; labels = leb→le (length (zeroth ∷ first_row ∷ latest)) (greatest + 1) tt }

-- Its last row, with doors seen closed.
last_row : Row
last_row = (25797, sees 0 0 0 0 1 0 1)

late_and_last : latest ≡ late ++ last_row ∷ []
unfolding last_row runs rows_from stretches closed_at_last late latest
late_and_last = refl

-- What is told of a last row stands behind what is told of the others.
told_last : (n : ℕ) (s : State) (rows : List Row) (r : Row)
    → (k : ℕ) × (told_rows n s (rows ++ r ∷ []) ≡ told_rows n s rows ++ told_row k (after s rows) r ∷ [])
unfolding after
told_last n s [] r = (n, refl)
told_last n s (q ∷ rows) r =
    let others = told_last (n + 1) (next s q) rows r in (others.0, ap (λ (ts : List Told). told_row n s q ∷ ts) others.1)

-- So there is a stretch of a file over which 24,796 ms elapse with the handle held up in flight, and at its last row it is settled without
-- red; at the row in front of that, 100 ms earlier, it is not settled.
pub settles_at_the_bound_in_a_file : SettlesAt bound limit false in_flight
unfolding bound_for zeroth started_at fresh_of start elapsed_since after anomaly settled settled_on shown_of lights_of
settles_at_the_bound_in_a_file =
    let early = settles_at_the_bound.0 in
    let end = settles_at_the_bound.1 in
    let behind = next start first_row in
    let stays : Held false in_flight start (first_row ∷ latest) = subst⁻¹ T (ap (λ (x : Shown). x.is_held) end) tt in
    let were_held : Held false in_flight start (first_row ∷ late) = subst⁻¹ T (ap (λ (x : Shown). x.is_held) early) tt in
    let last = told_last 2 behind late last_row in
    let are : told_rows 2 behind latest ≡ told_rows 2 behind late ++ told_row last.0 (after behind late) last_row ∷ [] =
    ap (told_rows 2 behind) late_and_last ∙ last.1 in
    let ends : after behind latest ≡ next (after behind late) last_row =
    ap (after behind) late_and_last ∙ after_last behind late last_row in
    record {
      input = trace_bearing (zeroth ∷ first_row ∷ latest);
      first = told_row 1 start first_row;
      rest = told_rows 2 behind late;
      last = told_row last.0 (after behind late) last_row;
      is_stretch =
          subst (Stretch (fresh_of 0) (trace_bearing (zeroth ∷ first_row ∷ latest)) (told_row 1 start first_row)) are
          (stretch_of (fresh_of 0) zeroth first_row latest worst_bears);
      accepts = accepts false in_flight start first_row latest stays;
      held =
          subst (λ (ts : List Told). Each (HeldAs false in_flight) (told_row 1 start first_row ∷ ts)) are
          (all_held false in_flight 1 start (first_row ∷ latest) stays);
      in_all =
          ap elapsed_over (sym are)
          ∙ times false in_flight 2 behind latest (goes_on false in_flight start first_row latest stays)
          ∙ ap (λ (x : Shown). x.since) end;
      settles =
          subst (λ (t : State). T (is_settled false t)) ends (subst⁻¹ T (ap (λ (x : Shown). x.is_settled) end) tt);
      not_red =
          subst (λ (t : State). T (not (anomaly t.core))) ends
          (subst⁻¹ (λ (is_red : Bool). T (not is_red)) (ap (λ (x : Shown). x.is_red) end) tt);
      earlier =
          ap (λ (since : ℕ). since + limit)
          (times false in_flight 2 behind late (goes_on false in_flight start first_row late were_held) ∙ ap (λ (x : Shown). x.since) early);
      not_yet =
          subst⁻¹ (λ (t : State). T (not (is_settled false t))) (states 2 behind late)
          (subst⁻¹ (λ (is_settled : Bool). T (not is_settled)) (ap (λ (x : Shown). x.is_settled) early) tt);
    }

-- ---- The stronger form

-- A stretch without its last row.
but_for_the_last : (state : State) (input : List ℕ) (first : Told) (rest : List Told) (last : Told)
    → Stretch state input first (rest ++ last ∷ [])
    → Stretch state input first rest
but_for_the_last state input first rest last stretch =
    record {
      front = stretch.front;
      back = last ∷ stretch.back;
      are =
          stretch.are
          ∙ ap (λ (ts : List Told). stretch.front ++ first ∷ ts) (append_assoc rest (last ∷ []) stretch.back);
    }

each_but_last : (Law : Told → Type 0) (ts : List Told) (last : Told) → Each Law (ts ++ last ∷ []) → Each Law ts
each_but_last Law [] last h = tt
each_but_last Law (t ∷ ts) last h = (h.0, each_but_last Law ts last h.1)

-- It holds with no lower number.
pub the_bound_cannot_drop_in_a_file : (ms : ℕ) → OfEveryFile (UnsettledIsEarly limit ms) → bound ≤ ms
the_bound_cannot_drop_in_a_file ms early =
    let worst = settles_at_the_bound_in_a_file in
    subst (λ (since : ℕ). since ≤ ms) worst.earlier
    (early (fresh_of 0) (fresh 0) worst.input worst.first worst.rest
    (but_for_the_last (fresh_of 0) worst.input worst.first worst.rest worst.last worst.is_stretch)
    worst.accepts false in_flight
    (each_but_last (HeldAs false in_flight) (worst.first ∷ worst.rest) worst.last worst.held)
    worst.not_yet)
