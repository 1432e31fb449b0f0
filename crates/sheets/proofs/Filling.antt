-- What a call of the reader comes to for a sheet that is being filled: the part is used up; or a row is written, and the rest is taken in
-- behind it; or a 9 has ended the reading.
-- Assumes nothing.
use Rattle.std.specs.Result.{is_err}
use mathlib.Core.Bool.{not}
use Rattle.std.proofs.Common.{Result, Ok, Err, ◌≡◌, ℕ, suc, ◌+◌, ◌<◌, ◌≤◌, Bool, true, false, cond, ltb, Some, None, List, [], ◌∷◌, ◌++◌, length, take, drop, sym, refl, ap, ◌∙◌, subst, true≢false, append-nil, arith, length-append, take-append-drop, length-take-le, drop-drop, le-ltb, lt-ltb}
use mathlib.Core.Bool.{false≢true}
use lib.Seq.{take-length, take-append_seam}
use Rattle.common.proofs.Pairs.{both}
use Rattle.texts.specs.Puts.{Put}
use Rattle.dump.specs.Wires.{wires}
use Rattle.readback.specs.declared.Reader.{Reader}
use Rattle.readback.specs.declared.Took.{Took as ReaderGiven}
use Rattle.readback.specs.declared.Refused.{Refused}
use Rattle.readback.specs.Answers.{Took as ReaderTook, took_says}
use Rattle.refusals.proofs.Laws.{no_zero}
use Rattle.readback.specs.Bytes.{new_reader, byte_of}
use Rattle.readback.specs.Reads.{is_bad, complete, begins, take_of, finish_of}
use Rattle.readback.proofs.Parts.{through, Plain, Comes, take_comes, drop_front, last_by, finish_comes}
use Rattle.readback.proofs.Parts.Comes.{to_its_end, to_a_moment, to_nothing}
use Rattle.readback.proofs.Places.{begun_values}
use Rattle.sheets.specs.declared.Sheet.{Sheet}
use Rattle.sheets.specs.declared.Turn.{Turn}
use Rattle.sheets.specs.Sheets.{sheet_row, row_room}
use Rattle.sheets.specs.Runs.{one_more, line_after, line_behind, with_row, row_of, Filling, fill_from, filled, fill_of, turn_by}
use Rattle.sheets.proofs.Counting.{one_byte_more}

-- A sheet that no 9 has ended.
abbrev pub under : Reader → ℕ → ℕ → Sheet
under r line rows = record { reader = r; line = line; rows = rows; nine = false }

-- One that a 9 has.
abbrev ended : ℕ → ℕ → Sheet
ended line rows = record { reader = new_reader; line = line; rows = rows; nine = true }

-- Up to the byte behind a front.
take_front : (front : List ℕ) (b : ℕ) (back : List ℕ) → take (suc (length front)) (front ++ b ∷ back) ≡ front ++ b ∷ []
take_front [] b back = refl
take_front (c ∷ front) b back = ap (λ (l : List ℕ). c ∷ l) (take_front front b back)

module _ (size : ℕ) (text : List ℕ) where
  -- Plain bytes write nothing.
  plain_fills : (front : List ℕ) (r : Reader) (line rows used n : ℕ) (rest : List ℕ) → n ≡ used + length front → Plain r front
      → fill_from size (under r line rows) used text (front ++ rest)
      ≡ fill_from size (under (through r front) (line_behind line front) rows) n text rest
  unfolding fill_from line_behind
  plain_fills [] r line rows used n rest e p = let same : n ≡ used = omega arith in rw same
  plain_fills (b ∷ front) r line rows used n rest e p =
      rw (p.0, p.1) (plain_fills front (byte_of r b) (line_after line b) rows (suc used) n rest (omega arith) p.2)

  -- What is filled from a place on, where a row is written there and its room is asked for.
  abbrev pub with_text : List ℕ → Sheet → ℕ → List ℕ → Filling
  with_text row s used bytes =
      cond (ltb size (length (text ++ row) + row_room)) (s, used, text ++ row) (fill_from size s used (text ++ row) bytes)

  -- A byte that begins a moment writes the row of the one before it.
  begun_fills : (r : Reader) (line rows used b : ℕ) (back : List ℕ) → is_bad (byte_of r b).place ≡ false → begins r b ≡ true
      → fill_from size (under r line rows) used text (b ∷ back)
      ≡ with_text (row_of r) (under (byte_of r b) (line_after line b) (one_more rows)) (suc used) back
  unfolding fill_from
  begun_fills r line rows used b back f g = rw (f, g)

  -- A byte that no dump has there ends the reading.
  bad_fills : (r : Reader) (line rows used b : ℕ) (back : List ℕ) → is_bad (byte_of r b).place ≡ true
      → fill_from size (under r line rows) used text (b ∷ back) ≡ (ended line rows, used + length (b ∷ back), text)
  unfolding fill_from
  bad_fills r line rows used b back f = rw f

  -- At the end of the part.
  pub none_fills : (s : Sheet) (used : ℕ) → fill_from size s used text [] ≡ (s, used, text)
  unfolding fill_from
  none_fills s used = refl

  -- What a call of the reader says of the filling, by what it came to for the sheet.
  pub record Turned (s : Sheet) (used : ℕ) (bytes : List ℕ) (turn : Turn) : Type 0 where
    pub inside : turn.used ≤ length bytes
    pub forth : turn.sheet.nine ≡ false → 0 < length bytes → 0 < turn.used
    pub at_nine : turn.sheet.nine ≡ true
        → fill_from size s used text bytes ≡ (turn.sheet, used + length bytes, text)
    pub at_end : turn.sheet.nine ≡ false → turn.moment ≡ None
        → fill_from size s used text bytes ≡ (turn.sheet, used + turn.used, text)
    pub at_row : turn.sheet.nine ≡ false → {time : ℕ} → turn.moment ≡ Some time
        → fill_from size s used text bytes
        ≡ with_text (sheet_row time turn.sheet.reader.values) (with_row turn.sheet) (used + turn.used) (drop turn.used bytes)

  turned_under : (r : Reader) (line rows used : ℕ) {bytes : List ℕ} (values : List ℕ) {answer : ReaderTook × List ℕ}
      → Comes r values r 0 bytes answer
      → Turned (under r line rows) used bytes (turn_by (under r line rows) bytes answer.0)
  turned_under r line rows used values (to_its_end bytes n e p) =
      let same : n ≡ length bytes = omega arith in
      record {
        inside = omega arith;
        forth = λ fine some. omega arith;
        at_nine = λ nine. absurd (false≢true nine);
        at_end = λ fine given.
            rw (same, take-length bytes)
            (ap (λ (l : List ℕ). fill_from size (under r line rows) used text l) (sym (append-nil bytes))
            ∙ plain_fills bytes r line rows used (used + length bytes) [] refl p
            ∙ none_fills (under (through r bytes) (line_behind line bytes) rows) (used + length bytes));
        at_row = λ fine given. absurd (cc);
      }
  turned_under r line rows used values (to_a_moment front b back n e p f g) =
      let same : n ≡ suc (length front) = omega arith in
      let m = through r front in
      let more : used + suc (length front) ≡ suc (used + length front) = omega arith in
      record {
        inside = simp length-append (omega arith);
        forth = λ fine some. omega arith;
        at_nine = λ nine. absurd (false≢true nine);
        at_end = λ fine given. absurd (cc);
        at_row = λ fine {time} given.
            let behind = under (byte_of m b) (line_after (line_behind line front) b) (one_more rows) in
            let now : m.time ≡ time = cc in
            rw (same, take_front front b back, one_byte_more front line b, drop_front front b back, more)
            (plain_fills front r line rows used (used + length front) (b ∷ back) refl p
            ∙ begun_fills m (line_behind line front) rows (used + length front) b back f g
            ∙ ap (λ (vs : List Bool). with_text (sheet_row m.time vs) behind (suc (used + length front)) back) (sym (begun_values m b g))
            ∙ ap (λ (t : ℕ). with_text (sheet_row t (byte_of m b).values) behind (suc (used + length front)) back) now);
      }
  turned_under r line rows used values (to_nothing front b back n e p f) =
      let same : n ≡ length front = omega arith in
      let m = through r front in
      let all : (used + length front) + length (b ∷ back) ≡ used + length (front ++ b ∷ back) = simp length-append (omega arith) in
      record {
        inside = simp length-append (omega arith);
        forth = λ fine some. absurd (true≢false fine);
        at_nine = λ nine.
            rw (same, take-append_seam front (b ∷ back))
            (plain_fills front r line rows used (used + length front) (b ∷ back) refl p
            ∙ bad_fills m (line_behind line front) rows (used + length front) b back f
            ∙ ap (λ (k : ℕ). (ended (line_behind line front) rows, k, text)) all);
        at_end = λ fine given. absurd (true≢false fine);
        at_row = λ fine given. absurd (true≢false fine);
      }

  -- With a buffer of 26 bytes.
  pub turned : (s : Sheet) (used : ℕ) (bytes values : List ℕ) → s.nine ≡ false → length values ≡ wires
      → Turned s used bytes (turn_by s bytes (take_of s.reader bytes values).0)
  turned s used bytes values fine wide =
      subst
      (λ (nine : Bool).
      Turned (record { reader = s.reader; line = s.line; rows = s.rows; nine = nine }) used bytes
      (turn_by s bytes (take_of s.reader bytes values).0))
      (sym fine)
      (turned_under s.reader s.line s.rows used values (take_comes s.reader bytes values wide))

-- Whatever a call answers, it uses no more than there is.
pub within : (r : Reader) (bytes values : List ℕ) {took : ReaderTook} {left : List ℕ} → length values ≡ wires → (took, left) ≡ take_of r bytes values
    → took.used ≤ length bytes
within r bytes values wide e = rw (both e).0 (by_way (take_comes r bytes values wide)) where
  by_way : {part : List ℕ} {answer : ReaderTook × List ℕ} → Comes r values r 0 part answer → answer.0.used ≤ length part
  by_way (to_its_end part n size p) = omega arith
  by_way (to_a_moment front b back n size p f g) = simp length-append (omega arith)
  by_way (to_nothing front b back n size p f) = simp length-append (omega arith)

-- ---- The output buffer

-- The text so far stands in front of it.
pub as_filled : {f : Filling} (s : Sheet) (used written : ℕ) (out out₀ : List ℕ) → written ≤ length out → drop written out ≡ drop written out₀
    → f ≡ (s, used, take written out)
    → (record { sheet = s; used = used; written = written; refusal = 0 }, out) ≡ filled f out₀
as_filled s used written out out₀ h past e =
    rw (e, length-take-le written out h)
    (ap (λ (l : List ℕ). (record { sheet = s; used = used; written = written; refusal = 0 }, l))
    (sym (take-append-drop written out) ∙ ap (λ (l : List ℕ). take written out ++ l) past))

-- So it is by the rule of a call, where no 9 has ended the sheet and there is room.
pub as_fill : (s : Sheet) (part out : List ℕ) → row_room ≤ length out → s.nine ≡ false
    → filled (fill_from (length out) s 0 [] part) out ≡ fill_of s part out
unfolding fill_of
as_fill s part out room fine =
    rw (le-ltb (length out) row_room room)
    (ap (λ (t : Bool). cond t (filled (s, length part, []) out) (filled (fill_from (length out) s 0 [] part) out)) (sym fine))

-- A row is put behind it: the bytes past it stay,
pub past_row : {out row after : List ℕ} {written next : ℕ} (out₀ : List ℕ) → Put out written row after next
    → drop written out ≡ drop written out₀
    → drop next after ≡ drop next out₀
past_row {out} {row} {after} {written} {next} out₀ p past =
    p.past
    ∙ ap (λ (k : ℕ). drop k out) p.place
    ∙ sym (drop-drop (length row) written out)
    ∙ ap (drop (length row)) past
    ∙ drop-drop (length row) written out₀
    ∙ ap (λ (k : ℕ). drop k out₀) (sym p.place)

-- and the filling goes on behind it, or stops where no room is left.
module _ (size : ℕ) {out row after : List ℕ} {written next : ℕ} (p : Put out written row after next) (within : next ≤ length after) (s : Sheet) (used : ℕ) (bytes : List ℕ) where
  row_behind : with_text size (take written out) row s used bytes
      ≡ cond (ltb size (next + row_room)) (s, used, take next after) (fill_from size s used (take next after) bytes)
  row_behind = rw (sym p.text, length-take-le next after within)

  pub stops : size < next + row_room → with_text size (take written out) row s used bytes ≡ (s, used, take next after)
  stops h = row_behind ∙ rw (lt-ltb size (next + row_room) h)

  pub goes_on : next + row_room ≤ size → with_text size (take written out) row s used bytes ≡ fill_from size s used (take next after) bytes
  goes_on h = row_behind ∙ rw (le-ltb size (next + row_room) h)

-- ---- The end of the dump

-- The last moment is complete exactly where it is not refused.
pub last_refused : (r : Reader) (values : List ℕ) → length values ≡ wires → ((finish_of r values).0.refusal ≡ 0 → ⊥) → complete r ≡ false
last_refused r values wide = rw (finish_comes r values wide) (by_test (complete r)) where
  by_test : (t : Bool) → ((last_by t r values).0.refusal ≡ 0 → ⊥) → t ≡ false
  by_test true h = absurd (h refl)
  by_test false h = refl

pub last_given : (r : Reader) (values : List ℕ) → length values ≡ wires → (finish_of r values).0.refusal ≡ 0 → complete r ≡ true
last_given r values wide = rw (finish_comes r values wide) (by_test (complete r)) where
  by_test : (t : Bool) → (last_by t r values).0.refusal ≡ 0 → t ≡ true
  by_test true h = refl
  by_test false h = absurd (omega arith)

-- As the code tests it.
pub last_tested : (r : Reader) (answer : Result ReaderGiven Refused) (values left : List ℕ) → length values ≡ wires
    → (took_says r answer, left) ≡ finish_of r values
    → complete r ≡ not (is_err answer)
last_tested r (Ok t) values left wide e = last_given r values wide (sym (ap (λ (a : ReaderTook). a.refusal) (both e).0))
last_tested r (Err f) values left wide e =
    last_refused r values wide (λ none. no_zero f.refusal (ap (λ (a : ReaderTook). a.refusal) (both e).0 ∙ none))
