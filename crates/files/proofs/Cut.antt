-- The rows of a lesson that was handed over are those of the lesson that was not, but for their labels and the row 0 that shows where it
-- goes on.
-- Assumes nothing.
use Prim.Native.Nat.{ℕ, ◌+◌, ◌≤◌, ◌<◌, ◌^◌}
use native.Mathlib.Omega.{arith}
use mathlib.Core.List.{List, [], ◌∷◌, ◌++◌, map}
use mathlib.Core.Path.{◌≡◌, refl, sym, ap, ◌∙◌}
use lib.ListN.{length, length-append, length-map}
use Rattle.trace.specs.Numbers.{greatest}
use Rattle.controller.specs.declared.State.{State}
use Rattle.controller.specs.Answers.{Answer}
use Rattle.controller.specs.Start.{started_at}
use Rattle.controller.specs.Steps.{step_of}
use Rattle.controller.specs.Lamps.{lights_of, shown_of}
use Rattle.controller.specs.Samples.{Row, answers, after}
use Rattle.image.specs.Images.{load_of}
use Rattle.laws.specs.Reached.{Reached}
use Rattle.laws.specs.HandedOver.{but_for_stamp, SameTimes, ahead, all_ahead, Of32Bits}
use Rattle.laws.proofs.Images.{goes_on_the_same, step_is32, same_times_ahead}
use Rattle.lesson.specs.Replay.{resumed_of}
use Rattle.handing.specs.Handing.{saved_of}
use Rattle.files.specs.Traces.{AllBearable, InOneTrace, trace_bearing, Body, Bears, body_of, file_of, bodies_to}
use Rattle.files.specs.Cut.{LastShows, InTwoFiles}
use Rattle.files.proofs.Traces.{what_it_bears_is_answered, left_of_it, row_0_was_read, a_trace_bears_its_samples}
use Rattle.files.proofs.HandedOver.{handed_over}

-- ---- A lesson in two

bodies_in_two : (s : State) (more rest : List Row)
    → map body_of (answers s (more ++ rest)) ≡ map body_of (answers s more) ++ map body_of (answers (after s more) rest)
unfolding answers after
bodies_in_two s [] rest = refl
bodies_in_two s (r ∷ more) rest =
    let a = step_of s r.0 r.1 in ap (λ (bs : List Body). body_of a ∷ bs) (bodies_in_two a.state more rest)

last_shown : (a : Answer) (more : List Row) → LastShows (shown_of (after a.state more)) (map body_of (a ∷ answers a.state more))
unfolding answers after
last_shown a [] = refl
last_shown a (r ∷ more) = last_shown (step_of a.state r.0 r.1) more

-- ---- What a row shows is not the stamp

shows_the_same : (answers : List Answer) → map body_of answers ≡ map body_of (map but_for_stamp answers)
unfolding started_at shown_of lights_of
shows_the_same [] = refl
shows_the_same (a ∷ more) = ap (λ (bs : List Body). body_of a ∷ bs) (shows_the_same more)

-- The same samples at the same times are shown the same.
same_bodies : (s : State) (stamp : ℕ) (rows other_rows : List Row) → SameTimes s rows (started_at stamp s) other_rows
    → map body_of (answers (started_at stamp s) other_rows) ≡ map body_of (answers s rows)
same_bodies s stamp rows other_rows times =
    shows_the_same (answers (started_at stamp s) other_rows)
    ∙ ap (map body_of) (sym (goes_on_the_same s stamp rows other_rows times))
    ∙ sym (shows_the_same (answers s rows))

-- ---- Handed over

-- A lesson is cut behind one of its rows, of which there is row 0 at least. The image that the first input leaves is saved, and loaded at any stamp, whatever the other laptop held before; the second input bears any row 0, and then the same samples
-- at the same elapsed times, the first of them counted from that row 0.
-- Each input may be any bytes that bear these, and may end in a refusal.
pub in_two_files : (s : State) → Reached s
    → (start : Row) (more rest : List Row)
    → (again : Row) (other_rest : List Row)
    → (let left = after (started_at start.0 s) more in SameTimes left rest (started_at again.0 left) other_rest)
    → (whole first second end_of_whole end_of_first end_of_second : List ℕ)
    → Bears whole ((start ∷ more) ++ rest) end_of_whole
    → Bears first (start ∷ more) end_of_first
    → Bears second (again ∷ other_rest) end_of_second
    → (before : State) (stamp : ℕ)
    → InTwoFiles (resumed_of s whole) (resumed_of s first) (resumed_of (load_of before (saved_of s first) stamp).state second)
    end_of_whole end_of_first end_of_second
unfolding started_at shown_of lights_of
in_two_files s reached start more rest again other_rest times whole first second w f e whole_bears first_bears second_bears before stamp =
    let from = started_at start.0 s in
    let left = after from more in
    let further : List Body → List ℕ = λ bs. file_of ((0, shown_of left) ∷ bs) ++ e in
    record {
      done = bodies_to s (start ∷ more);
      others = map body_of (answers left rest);
      at = shown_of left;
      as_one =
          what_it_bears_is_answered s whole ((start ∷ more) ++ rest) w whole_bears
          ∙ ap (λ (bs : List Body). file_of ((0, shown_of from) ∷ bs) ++ w) (bodies_in_two from more rest);
      until_there = what_it_bears_is_answered s first (start ∷ more) f first_bears;
      from_there =
          handed_over s reached first (row_0_was_read s first start more f first_bears) before stamp second
          ∙ ap (λ (t : State). resumed_of t second) (left_of_it s first start more f first_bears)
          ∙ what_it_bears_is_answered left second (again ∷ other_rest) e second_bears
          ∙ ap further (same_bodies left again.0 rest other_rest times);
      goes_on_at = last_shown (record { refusal = 0; state = from }) more;
    }

-- ---- By another clock

-- Samples that a trace can bear, up to one and from there on.
bearable_front : (rows rest : List Row) → AllBearable (rows ++ rest) → AllBearable rows
bearable_front [] rest each = tt
bearable_front (r ∷ rows) rest each = (each.0, bearable_front rows rest each.1)

bearable_rest : (rows rest : List Row) → AllBearable (rows ++ rest) → AllBearable rest
bearable_rest [] rest each = each
bearable_rest (r ∷ rows) rest each = bearable_rest rows rest each.1

-- Stamps by a clock that is ahead are of 32 bits too.
bearable_ahead : (ms : ℕ) (rows : List Row) → AllBearable rows → AllBearable (all_ahead ms rows)
unfolding ahead
bearable_ahead ms [] each = tt
bearable_ahead ms (r ∷ rows) each = ((omega arith, each.0.1, each.0.2), bearable_ahead ms rows each.1)

are_of_32_bits : (rows : List Row) → AllBearable rows → Of32Bits rows
unfolding Of32Bits
are_of_32_bits [] each = tt
are_of_32_bits (r ∷ rows) each = (omega (arith, each.0.0), are_of_32_bits rows each.1)

left_of_32_bits : (s : State) (rows : List Row) → s.stamp < 2 ^ 32 → AllBearable rows → (after s rows).stamp < 2 ^ 32
unfolding after
left_of_32_bits s [] is32 each = is32
left_of_32_bits s (r ∷ rows) is32 each =
    left_of_32_bits (step_of s r.0 r.1).state rows (step_is32 0 s r.0 r.1 is32 (omega (arith, each.0.0))) each.1

-- So any lesson that a trace in form can bear, cut behind any of its rows, goes on by a clock that is ahead by any number of ms, modulo 2^32.
pub in_two_files_by_another_clock : (s : State) → Reached s
    → (start : Row) (more rest : List Row)
    → InOneTrace ((start ∷ more) ++ rest)
    → (ms : ℕ) (before : State) (stamp : ℕ)
    → (let again : Row = (ahead ms (after (started_at start.0 s) more).stamp, start.1) in
    let first = trace_bearing (start ∷ more) in
    InTwoFiles (resumed_of s (trace_bearing ((start ∷ more) ++ rest))) (resumed_of s first)
    (resumed_of (load_of before (saved_of s first) stamp).state (trace_bearing (again ∷ all_ahead ms rest)))
    [] [] [])
unfolding started_at ahead
in_two_files_by_another_clock s reached start more rest can ms before stamp =
    let left = after (started_at start.0 s) more in
    let again : Row = (ahead ms left.stamp, start.1) in
    let each = can.each in
    let each_rest = bearable_rest (start ∷ more) rest each in
    let long : length more + length rest ≤ greatest = omega (arith, length-append more rest, can.labels) in
    let is32 : left.stamp < 2 ^ 32 =
    left_of_32_bits (started_at start.0 s) more (omega (arith, each.0.0)) (bearable_front more rest each.1) in
    let can_first : InOneTrace (start ∷ more) =
    record { each = bearable_front (start ∷ more) rest each; labels = omega (arith, long) } in
    let can_second : InOneTrace (again ∷ all_ahead ms rest) =
    record {
      each = ((omega arith, each.0.1, each.0.2), bearable_ahead ms rest each_rest);
      labels = omega (arith, long, length-map {B = Row} rest (λ (r : Row). (ahead ms r.0, r.1)));
    } in
    in_two_files s reached start more rest again (all_ahead ms rest)
    (same_times_ahead ms left rest is32 (are_of_32_bits rest each_rest))
    (trace_bearing ((start ∷ more) ++ rest)) (trace_bearing (start ∷ more)) (trace_bearing (again ∷ all_ahead ms rest))
    [] [] []
    (a_trace_bears_its_samples ((start ∷ more) ++ rest) can)
    (a_trace_bears_its_samples (start ∷ more) can_first)
    (a_trace_bears_its_samples (again ∷ all_ahead ms rest) can_second)
    before stamp
