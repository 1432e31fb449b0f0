-- What is written of a dump by parts is the sheet of the whole: a call of `fill` writes what was to come, and the rest is still to come;
-- `finish` gives all that was to come; after a 9 nothing comes. By induction over the bytes.
-- Assumes nothing.
use Rattle.std.proofs.Common.{◌≡◌, ℕ, zero, suc, ◌+◌, ◌<◌, ◌≤◌, Bool, true, false, cond, ltb, ◌↔◌, List, [], ◌∷◌, ◌++◌, length, drop, sym, refl, ap, ◌∙◌, append_assoc, append-nil, arith, length-append, length-drop, ltb-false, ltb-true, le-ltb, lt-ltb}
use lib.Seq.{take-append_seam, drop-append_seam}
use Rattle.readback.specs.declared.Reader.{Reader}
use Rattle.readback.specs.Bytes.{byte_of}
use Rattle.common.specs.Answers.{gives}
use Rattle.dump.specs.Dumps.{Moment}
use Rattle.readback.specs.Reads.{is_bad, complete, begins, moment_of, read_of}
use Rattle.readback.specs.Calls.{Given, ahead, given_from, given_of}
use Rattle.readback.proofs.Calls.{dump_gives}
use Rattle.sheets.specs.declared.Sheet.{Sheet}
use Rattle.sheets.specs.Answers.{Took}
use Rattle.sheets.specs.Sheets.{row_room, sheet_header, sheet_rows, sheet_of}
use Rattle.sheets.specs.Runs.{
  new_sheet,
  one_more,
  line_after,
  with_row,
  reads,
  row_of,
  over,
  Outcome,
  behind,
  comes,
  to_come,
  Filling,
  fill_from,
  filled,
  lent,
  fill_of,
  finish_of,
  wrote,
  Filled,
  Finished,
  input_of,
  in_turns,
  turns_for,
  in_all,
  AllRoom,
}
use Rattle.sheets.proofs.Filling.{under}

-- ---- A call of `fill`

-- What is filled from a place on, behind a text: so much is taken, and what was to come is written or still to come.
record Fills (s : Sheet) (used : ℕ) (text bytes : List ℕ) (f : Filling) : Type 0 where
  taken : ℕ
  count : f.1 ≡ used + taken
  inside : taken ≤ length bytes
  forth : 0 < length bytes → 0 < taken
  same : (rest : List ℕ) → behind text (comes s (bytes ++ rest)) ≡ behind f.2 (to_come f.0 (drop taken bytes ++ rest))

-- A row behind a text.
row_behind : (text row : List ℕ) (o : Outcome) → behind text (behind row o) ≡ behind (text ++ row) o
row_behind text row o = ap (λ (l : List ℕ). (l, o.1)) (sym (append_assoc text row o.0))

module _ (size : ℕ) where
  fills : (bytes : List ℕ) (r : Reader) (line rows used : ℕ) (text : List ℕ)
      → Fills (under r line rows) used text bytes (fill_from size (under r line rows) used text bytes)
  unfolding fill_from comes to_come
  fills [] r line rows used text =
      record { taken = 0; count = omega arith; inside = omega arith; forth = λ h. absurd (omega arith); same = λ rest. refl }
  fills (b ∷ bytes) r line rows used text =
      by_tests (is_bad (byte_of r b).place) (begins r b) (ltb size (length (text ++ row_of r) + row_room)) refl refl
      (fills bytes (byte_of r b) (line_after line b) (one_more rows) (suc used) (text ++ row_of r))
      (fills bytes (byte_of r b) (line_after line b) rows (suc used) text)
    where
      s : Sheet
      s = under r line rows

      on : Sheet
      on = under (byte_of r b) (line_after line b) rows

      row : Sheet
      row = under (byte_of r b) (line_after line b) (one_more rows)

      by_tests : (x y z : Bool) → is_bad (byte_of r b).place ≡ x → begins r b ≡ y
          → Fills row (suc used) (text ++ row_of r) bytes (fill_from size row (suc used) (text ++ row_of r) bytes)
          → Fills on (suc used) text bytes (fill_from size on (suc used) text bytes)
          → Fills s used text (b ∷ bytes)
          (cond x (over s, used + length (b ∷ bytes), text)
          (cond y
          (cond z (row, suc used, text ++ row_of r) (fill_from size row (suc used) (text ++ row_of r) bytes))
          (fill_from size on (suc used) text bytes)))
      by_tests true y z e f k l =
          record {
            taken = length (b ∷ bytes);
            count = refl;
            inside = omega arith;
            forth = λ h. omega arith;
            same = λ rest. rw e;
          }
      by_tests false true true e f k l =
          record {
            taken = 1;
            count = omega arith;
            inside = omega arith;
            forth = λ h. omega arith;
            same = λ rest. rw (e, f) (row_behind text (row_of r) (comes row (bytes ++ rest)));
          }
      by_tests false true false e f k l =
          record {
            taken = suc k.taken;
            count = k.count ∙ omega arith;
            inside = omega (arith, k.inside);
            forth = λ h. omega arith;
            same = λ rest. rw (e, f) (row_behind text (row_of r) (comes row (bytes ++ rest)) ∙ k.same rest);
          }
      by_tests false false z e f k l =
          record {
            taken = suc l.taken;
            count = l.count ∙ omega arith;
            inside = omega (arith, l.inside);
            forth = λ h. omega arith;
            same = λ rest. rw (e, f) (l.same rest);
          }

-- The text stands in front, and the bytes past it stay.
module _ (s : Sheet) (part out : List ℕ) (f : Filling) where
  text_of : wrote (filled f out) ≡ f.2
  text_of = take-append_seam f.2 (drop (length f.2) out)

  as_filled : (taken : ℕ) → f.1 ≡ taken → taken ≤ length part → (0 < length part → 0 < taken)
      → ((rest : List ℕ) → to_come s (part ++ rest) ≡ behind f.2 (to_come f.0 (drop taken part ++ rest)))
      → Filled s part out (filled f out)
  as_filled taken count inside forth same =
      record {
        taken = refl;
        inside = rw count inside;
        forth = λ h. rw count (forth h);
        fits = simp length-append (omega arith);
        past = drop-append_seam f.2 (drop (length f.2) out);
        same = λ rest. rw (text_of, count) (same rest);
      }

-- With room for a row nothing is refused.
has_room : (s : Sheet) (out : List ℕ) (answer : Took × List ℕ) → row_room ≤ length out → lent s out answer ≡ answer
has_room s out answer room = rw (le-ltb (length out) row_room room)

-- A call writes what was to come, and the rest is still to come.
pub fill_right : (s : Sheet) (part out : List ℕ) → row_room ≤ length out → Filled s part out (fill_of s part out)
unfolding fill_of to_come
fill_right s part out room =
    rw (has_room s out (cond s.nine (filled (s, length part, []) out) (filled (fill_from (length out) s 0 [] part) out)) room)
    (by_nine s.reader s.line s.rows s.nine)
  where
    at : Reader → ℕ → ℕ → Bool → Sheet
    at r line rows nine = record { reader = r; line = line; rows = rows; nine = nine }

    by_nine : (r : Reader) (line rows : ℕ) (nine : Bool)
        → Filled (at r line rows nine) part out
        (cond nine (filled (at r line rows nine, length part, []) out) (filled (fill_from (length out) (at r line rows nine) 0 [] part) out))
    by_nine r line rows true =
        as_filled (at r line rows true) part out (at r line rows true, length part, []) (length part) refl (omega arith) (λ h. h) (λ rest. refl)
    by_nine r line rows false =
        let f = fill_from (length out) (under r line rows) 0 [] part in
        let k = fills (length out) part r line rows 0 [] in
        as_filled (under r line rows) part out f k.taken (k.count ∙ omega arith) k.inside k.forth k.same

-- Something is left of the part only where no room is left for a row.
stops_full : (size : ℕ) (bytes : List ℕ) (s : Sheet) (used : ℕ) (text : List ℕ) → (fill_from size s used text bytes).1 < used + length bytes
    → size < length (fill_from size s used text bytes).2 + row_room
unfolding fill_from
stops_full size [] s used text = λ h. absurd (omega arith)
stops_full size (b ∷ bytes) s used text =
    by_tests (is_bad (byte_of s.reader b).place) (begins s.reader b) (ltb size (length (text ++ row_of s.reader) + row_room)) refl
    (stops_full size bytes (with_row (reads s b)) (suc used) (text ++ row_of s.reader))
    (stops_full size bytes (reads s b) (suc used) text)
  where
    row : List ℕ
    row = text ++ row_of s.reader

    by_row : Filling
    by_row = fill_from size (with_row (reads s b)) (suc used) row bytes

    plain : Filling
    plain = fill_from size (reads s b) (suc used) text bytes

    all : Bool → Bool → Bool → Filling
    all x y z = cond x (over s, used + length (b ∷ bytes), text) (cond y (cond z (with_row (reads s b), suc used, row) by_row) plain)

    by_tests : (x y z : Bool) → ltb size (length row + row_room) ≡ z
        → (by_row.1 < suc used + length bytes → size < length by_row.2 + row_room)
        → (plain.1 < suc used + length bytes → size < length plain.2 + row_room)
        → (all x y z).1 < used + length (b ∷ bytes)
        → size < length (all x y z).2 + row_room
    by_tests true y z e k l h = absurd (omega arith)
    by_tests false true true e k l h = ltb-true size (length row + row_room) e
    by_tests false true false e k l h = k (omega arith)
    by_tests false false z e k l h = l (omega arith)

pub fill_ends : (s : Sheet) (part out : List ℕ) → row_room ≤ length out → (fill_of s part out).0.used < length part
    → length out < (fill_of s part out).0.written + row_room
unfolding fill_of
fill_ends s part out room =
    rw (has_room s out (cond s.nine (filled (s, length part, []) out) (filled (fill_from (length out) s 0 [] part) out)) room) (by_nine s.nine)
  where
    by_nine : (t : Bool)
        → (cond t (filled (s, length part, []) out) (filled (fill_from (length out) s 0 [] part) out)).0.used < length part
        → length out < (cond t (filled (s, length part, []) out) (filled (fill_from (length out) s 0 [] part) out)).0.written + row_room
    by_nine true h = absurd (omega arith)
    by_nine false h = stops_full (length out) part s 0 [] (omega arith)

-- Refusal 8 is exactly for an output buffer that has no room for a row, and then all is as it was.
pub refused_out : (s : Sheet) (part out : List ℕ) → length out < row_room
    → fill_of s part out ≡ (record { sheet = s; used = 0; written = 0; refusal = 8 }, out)
unfolding fill_of
refused_out s part out h = rw (lt-ltb (length out) row_room h)

pub eight_exactly : (s : Sheet) (part out : List ℕ) → ((fill_of s part out).0.refusal ≡ 8) ↔ (length out < row_room)
eight_exactly s part out =
    (by_room (ltb (length out) row_room) refl, λ h. ap (λ (answer : Took × List ℕ). answer.0.refusal) (refused_out s part out h))
  where
    by_room : (t : Bool) → ltb (length out) row_room ≡ t → (fill_of s part out).0.refusal ≡ 8 → length out < row_room
    by_room true e h = ltb-true (length out) row_room e
    by_room false e h =
        let none : (fill_of s part out).0.refusal ≡ 0 = (fill_right s part out (ltb-false (length out) row_room e)).taken in
        absurd (omega (arith, none, h))

-- ---- The end of the input

as_finished : (s : Sheet) (out : List ℕ) (f : Filling) → to_come s [] ≡ (f.2, f.0) → Finished s out (filled f out)
as_finished s out f all =
    record {
      taken = refl;
      fits = simp length-append (omega arith);
      past = drop-append_seam f.2 (drop (length f.2) out);
      all = rw (text_of s [] out f) all;
    }

-- It gives all that was to come.
pub finish_right : (s : Sheet) (out : List ℕ) → row_room ≤ length out → Finished s out (finish_of s out)
unfolding finish_of comes to_come
finish_right s out room =
    rw (has_room s out (cond s.nine (filled (s, 0, []) out) (cond (complete s.reader) (filled (with_row s, 0, row_of s.reader) out) (filled (over s, 0, []) out))) room)
    (by_tests s.nine (complete s.reader) refl refl)
  where
    by_tests : (x y : Bool) → s.nine ≡ x → complete s.reader ≡ y
        → Finished s out (cond x (filled (s, 0, []) out) (cond y (filled (with_row s, 0, row_of s.reader) out) (filled (over s, 0, []) out)))
    by_tests true y e f = as_finished s out (s, 0, []) (rw e)
    by_tests false true e f = as_finished s out (with_row s, 0, row_of s.reader) (rw (e, f))
    by_tests false false e f = as_finished s out (over s, 0, []) (rw (e, f))

-- After a 9 nothing comes, whatever follows.
pub nine_for_good : (s : Sheet) (rest : List ℕ) → s.nine ≡ true → to_come s rest ≡ ([], s)
unfolding to_come
nine_for_good s rest e = rw e

-- ---- All calls

module _ (lends : ℕ → List ℕ) (rooms : AllRoom lends) where
  in_turns_lem : (turns : ℕ) (s : Sheet) (parts : List (List ℕ)) → turns_for parts ≤ turns
      → in_turns lends turns s parts ≡ to_come s (input_of parts)
  unfolding in_turns
  in_turns_lem zero s [] enough = absurd (omega arith)
  in_turns_lem zero s (part ∷ parts) enough = absurd (omega arith)
  in_turns_lem (suc turns) s [] enough = sym (finish_right s (lends turns) (rooms turns)).all
  in_turns_lem (suc turns) s ([] ∷ parts) enough = in_turns_lem turns s parts (omega arith)
  in_turns_lem (suc turns) s ((b ∷ part) ∷ parts) enough =
      let answer = fill_of s (b ∷ part) (lends turns) in
      let right = fill_right s (b ∷ part) (lends turns) (rooms turns) in
      let fewer = length-drop answer.0.used (b ∷ part) in
      ap (behind (wrote answer))
      (in_turns_lem turns answer.0.sheet (drop answer.0.used (b ∷ part) ∷ parts)
      (omega (arith, enough, fewer, right.forth (omega arith), right.inside)))
      ∙ sym (right.same (input_of parts))

  -- However the input is cut into parts, with any output buffers that have room for a row: from any sheet under way, what is written in
  -- all and the sheet that is left are what was to come.
  pub by_parts_from : (s : Sheet) (parts : List (List ℕ)) → in_all lends s parts ≡ to_come s (input_of parts)
  by_parts_from s parts = in_turns_lem (turns_for parts) s parts (omega arith)

-- ---- The whole

-- The rows to come are those of the moments to come.
rows_to_come : (bytes : List ℕ) (s : Sheet) → (comes s bytes).0 ≡ sheet_rows (given_from s.reader bytes).0
unfolding comes given_from sheet_rows
rows_to_come [] s = by_test (complete s.reader) where
  by_test : (t : Bool) → (cond {A = Outcome} t (row_of s.reader, with_row s) ([], over s)).0 ≡ sheet_rows (cond {A = Given} t (moment_of s.reader ∷ [], 0) ([], 9)).0
  by_test true = sym (append-nil (row_of s.reader))
  by_test false = refl
rows_to_come (b ∷ bytes) s =
    by_tests (is_bad (byte_of s.reader b).place) (begins s.reader b) (rows_to_come bytes (with_row (reads s b))) (rows_to_come bytes (reads s b))
  where
    given : Given
    given = given_from (byte_of s.reader b) bytes

    by_tests : (x y : Bool) → (comes (with_row (reads s b)) bytes).0 ≡ sheet_rows given.0 → (comes (reads s b) bytes).0 ≡ sheet_rows given.0
        → (cond {A = Outcome} x ([], over s) (cond y (behind (row_of s.reader) (comes (with_row (reads s b)) bytes)) (comes (reads s b) bytes))).0
        ≡ sheet_rows (cond {A = Given} x ([], 9) (cond y (ahead (moment_of s.reader) given) given)).0
    by_tests true y k l = refl
    by_tests false true k l = ap (λ (text : List ℕ). row_of s.reader ++ text) k
    by_tests false false k l = l

-- The header and what is to come of a new sheet are the sheet of the whole input,
pub whole_sheet : (bytes : List ℕ) → sheet_header ++ (to_come new_sheet bytes).0 ≡ sheet_of bytes
unfolding to_come new_sheet sheet_of given_of
whole_sheet bytes = ap (λ (text : List ℕ). sheet_header ++ text) (rows_to_come bytes new_sheet)

-- so however the input is cut, the header and what is written in all are it.
pub by_parts : (lends : ℕ → List ℕ) → AllRoom lends → (parts : List (List ℕ)) → sheet_header ++ (in_all lends new_sheet parts).0 ≡ sheet_of (input_of parts)
by_parts lends rooms parts =
    ap (λ (o : Outcome). sheet_header ++ o.0) (by_parts_from lends rooms new_sheet parts) ∙ whole_sheet (input_of parts)

-- Of a dump it is the header and the rows of its moments.
pub dump_sheet : (bytes : List ℕ) (ms : List Moment) → read_of bytes ≡ gives ms → sheet_of bytes ≡ sheet_header ++ sheet_rows ms
unfolding sheet_of
dump_sheet bytes ms e = ap (λ (g : Given). sheet_header ++ sheet_rows g.0) (dump_gives bytes ms e)
