-- The sheet that a whole input leaves: a 9 has ended it exactly where the input is no dump, its line is the one of the byte that was
-- refused, and its rows are counted. By induction over the bytes.
-- Assumes nothing.
use Rattle.std.proofs.Common.{◌≡◌, ℕ, suc, ◌+◌, ◌%◌, ◌^◌, ◌<◌, Bool, true, false, cond, not, eqb, ◌↔◌, List, [], ◌∷◌, length, take, sym, refl, ap, ◌∙◌, arith}
use mathlib.Core.Bool.{false≢true}
use mathlib.Core.Option.{none, some}
use Rattle.common.specs.Answers.{gives, refuses}
use Rattle.common.specs.Ascii.{lf}
use Rattle.dump.specs.Dumps.{Moment}
use Rattle.readback.specs.declared.Reader.{Reader}
use Rattle.readback.specs.Bytes.{new_reader, byte_of}
use Rattle.readback.specs.Reads.{is_bad, complete, begins, read_of}
use Rattle.readback.specs.Calls.{given_from, given_of, read_up_to}
use Rattle.readback.proofs.Calls.{read_is_given}
use Rattle.readback.proofs.Exact.{refuses_nine}
use Rattle.readback.proofs.Places.{refusal_gives_nothing}
use Rattle.sheets.specs.declared.Sheet.{Sheet}
use Rattle.sheets.specs.Sheets.{lines_in, line_of, nine_at}
use Rattle.sheets.specs.Runs.{new_sheet, one_more, line_after, line_behind, with_row, reads, row_of, over, Outcome, behind, comes, to_come}
use Rattle.sheets.proofs.Filling.{under}

-- Lines counted modulo 2 ^ 64 are as many as end among the bytes.
lines_counted : (bytes : List ℕ) (line : ℕ) → line < 2 ^ 64 → line_behind line bytes ≡ (line + lines_in bytes) % 2 ^ 64
unfolding line_behind lines_in
lines_counted [] line h = omega arith
lines_counted (b ∷ bytes) line h =
    by_test (eqb b lf) (lines_counted bytes (one_more line) (omega arith)) (lines_counted bytes line h)
  where
    by_test : (t : Bool) → line_behind (one_more line) bytes ≡ (one_more line + lines_in bytes) % 2 ^ 64
        → line_behind line bytes ≡ (line + lines_in bytes) % 2 ^ 64
        → line_behind (cond t (one_more line) line) bytes ≡ (line + cond t (suc (lines_in bytes)) (lines_in bytes)) % 2 ^ 64
    by_test true e f = e ∙ omega arith
    by_test false e f = f

-- What is left from a sheet under way on.
record Left (r : Reader) (line rows : ℕ) (bytes : List ℕ) (left : Sheet) : Type 0 where
  nine : left.nine ≡ not (eqb (given_from r bytes).1 0)
  read : left.line ≡ line_behind line (take (read_up_to r bytes) bytes)
  shown : left.rows ≡ (rows + length (given_from r bytes).0) % 2 ^ 64

left_over : (bytes : List ℕ) (r : Reader) (line rows : ℕ) → rows < 2 ^ 64 → Left r line rows bytes (comes (under r line rows) bytes).1
unfolding comes given_from read_up_to line_behind
left_over [] r line rows h = by_test (complete r) refl where
  by_test : (t : Bool) → complete r ≡ t → Left r line rows [] (cond {A = Outcome} t (row_of r, with_row (under r line rows)) ([], over (under r line rows))).1
  by_test true e = record { nine = rw e; read = refl; shown = rw e (omega arith) }
  by_test false e = record { nine = rw e; read = refl; shown = rw e (omega arith) }
left_over (b ∷ bytes) r line rows h =
    by_tests (is_bad (byte_of r b).place) (begins r b) refl refl
    (left_over bytes (byte_of r b) (line_after line b) (one_more rows) (omega arith))
    (left_over bytes (byte_of r b) (line_after line b) rows h)
  where
    s : Sheet
    s = under r line rows

    by_tests : (x y : Bool) → is_bad (byte_of r b).place ≡ x → begins r b ≡ y
        → Left (byte_of r b) (line_after line b) (one_more rows) bytes (comes (with_row (reads s b)) bytes).1
        → Left (byte_of r b) (line_after line b) rows bytes (comes (reads s b) bytes).1
        → Left r line rows (b ∷ bytes)
        (cond {A = Outcome} x ([], over s) (cond y (behind (row_of r) (comes (with_row (reads s b)) bytes)) (comes (reads s b) bytes))).1
    by_tests true y e f k l = record { nine = rw e; read = rw e; shown = rw e (omega arith) }
    by_tests false true e f k l = record { nine = rw (e, f) k.nine; read = rw e k.read; shown = rw (e, f) (k.shown ∙ omega arith) }
    by_tests false false e f k l = record { nine = rw (e, f) l.nine; read = rw e l.read; shown = rw (e, f) l.shown }

-- From the start on.
whole_left : (bytes : List ℕ) → Left new_reader 1 0 bytes (to_come new_sheet bytes).1
unfolding to_come new_sheet
whole_left bytes = left_over bytes new_reader 1 0 (omega arith)

-- The line that is left is the one up to which the input was read, and the rows are those of the moments that were given; both modulo 2 ^
-- 64.
pub left_line : (bytes : List ℕ) → (to_come new_sheet bytes).1.line ≡ line_of bytes % 2 ^ 64
unfolding line_of
left_line bytes =
    (whole_left bytes).read ∙ lines_counted (take (read_up_to new_reader bytes) bytes) 1 (omega arith) ∙ omega arith

pub left_rows : (bytes : List ℕ) → (to_come new_sheet bytes).1.rows ≡ length (given_of bytes).0 % 2 ^ 64
unfolding given_of
left_rows bytes = (whole_left bytes).shown ∙ omega arith

-- A 9 has ended it exactly where the input is no dump.
pub left_nine : (bytes : List ℕ) → (to_come new_sheet bytes).1.nine ≡ not (eqb (given_of bytes).1 0)
unfolding given_of
left_nine bytes = (whole_left bytes).nine

pub nine_exactly_left : (bytes : List ℕ) → ((to_come new_sheet bytes).1.nine ≡ true) ↔ (read_of bytes ≡ refuses 9)
nine_exactly_left bytes = (forth (eqb n 0) refl, back (eqb n 0) refl) where
  ms : List Moment
  ms = (given_of bytes).0

  n : ℕ
  n = (given_of bytes).1

  forth : (t : Bool) → eqb n 0 ≡ t → (to_come new_sheet bytes).1.nine ≡ true → read_of bytes ≡ refuses 9
  forth true e h = absurd (false≢true (ap not (sym e) ∙ sym (left_nine bytes) ∙ h))
  forth false e h =
      let same : read_of bytes ≡ refuses n = read_is_given bytes ∙ ap (λ (t : Bool). cond t (gives ms) (refuses n)) e in
      same ∙ ap refuses (refuses_nine bytes n same)

  back : (t : Bool) → eqb n 0 ≡ t → read_of bytes ≡ refuses 9 → (to_come new_sheet bytes).1.nine ≡ true
  back true e h = refusal_gives_nothing (sym h ∙ read_is_given bytes ∙ ap (λ (t : Bool). cond t (gives ms) (refuses n)) e)
  back false e h = left_nine bytes ∙ ap not e

-- So there is a 9 exactly where one ended the run; the line that a program names is its line modulo 2 ^ 64 (`left_line`).
pub nine_is_at : (bytes : List ℕ) → nine_at bytes ≡ cond (to_come new_sheet bytes).1.nine (some (line_of bytes)) none
unfolding nine_at
nine_is_at bytes = rw (left_nine bytes) (by_test (eqb (given_of bytes).1 0)) where
  by_test : (t : Bool) → cond t none (some (line_of bytes)) ≡ cond (not t) (some (line_of bytes)) none
  by_test true = refl
  by_test false = refl
