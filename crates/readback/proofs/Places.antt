-- Small steps that the proofs on reading take: a refusal gives nothing, a byte that no dump has is refused whatever follows, and so
-- a reading that gives something has taken every byte.
-- Assumes nothing.
use Prim.Native.Nat.{ℕ, suc, ◌^◌}
use native.Mathlib.Omega.{arith}
use mathlib.Core.Bool.{Bool, true, false, cond, ◌&&◌, false≢true}
use mathlib.Core.List.{List, [], ◌∷◌}
use mathlib.Core.Path.{◌≡◌, refl, sym, ◌∙◌}
use Rattle.common.specs.Answers.{gives, refuses}
use lib.Dec.{eqb, leb, ltb}
use lib.ListN.{length, get_or}
use Rattle.common.specs.Ascii.{lf}
use Rattle.dump.specs.Wires.{wires, first_code}
use Rattle.dump.specs.Dumps.{Moment, closing_text, hash, differ}
use Rattle.readback.specs.declared.Place.{Place}
use Rattle.readback.specs.declared.Place.TheVariants.{Opening, FirstValue, FirstCode, FirstEnd, Closing, Line, Time, Code, End, Bad}
use Rattle.readback.specs.declared.Reader.{Reader}
use Rattle.readback.specs.Bytes.{bad, is_value, value_of, wire_of, is_digit, with_digit, at_first_value, at_first_code, at_first_end, at_closing, at_line, at_time, at_code, at_end, byte_of}
use Rattle.readback.specs.Reads.{is_opening, is_bad, complete, begins, read_from}

-- A refusal gives nothing.
pub refusal_gives_nothing : {A B : Type 0} {k : ℕ} {x : A} → refuses k ≡ gives x → B
refusal_gives_nothing r = let z : ◌≡◌ {A = ℕ} 0 1 = cc in absurd (omega arith)

-- Both tests hold.
pub both_hold : (a b : Bool) → a && b ≡ true → (a ≡ true) × (b ≡ true)
both_hold true b e = (refl, e)
both_hold false b e = (cc, cc)

-- A reader by its parts.
abbrev pub reader_at : Place → ℕ → ℕ → List Bool → Reader
reader_at place time next values = record { place = place; time = time; next = next; values = values }

-- The place where nothing more is read.
pub bad_place : (place : Place) → is_bad place ≡ true → place ≡ Bad
bad_place (Opening at) e = cc
bad_place FirstValue e = cc
bad_place FirstCode e = cc
bad_place FirstEnd e = cc
bad_place (Closing at) e = cc
bad_place Line e = cc
bad_place (Time n) e = cc
bad_place (Code value) e = cc
bad_place End e = cc
bad_place Bad e = refl

-- There every reading is refused.
pub bad_refuses : (time next : ℕ) (values : List Bool) (bytes : List ℕ) → read_from (reader_at Bad time next values) bytes ≡ refuses 9
unfolding read_from complete begins byte_of
bad_refuses time next values [] = refl
bad_refuses time next values (b ∷ bytes) = bad_refuses time next values bytes

-- The same of a reader of which a test says that it is there.
pub refused_for_good : (place : Place) (time next : ℕ) (values : List Bool) (bytes : List ℕ) → is_bad place ≡ true
    → read_from (reader_at place time next values) bytes ≡ refuses 9
refused_for_good place time next values bytes e = rw (bad_place place e) (bad_refuses time next values bytes)

-- So where something is given, the byte was taken: its test holds, and the reading goes on behind it.
pub taken_on : (test : Bool) (after r : Reader) (bytes : List ℕ) (all : List Moment) → read_from (cond test after (bad r)) bytes ≡ gives all
    → (test ≡ true) × (read_from after bytes ≡ gives all)
taken_on true after r bytes all e = (refl, e)
taken_on false after r bytes all e = refusal_gives_nothing (sym (bad_refuses r.time r.next r.values bytes) ∙ e)

-- ---- Behind what every dump begins with the reader does not come there again

-- Of two readers neither of which is there.
of_two : (t : Bool) (p q : Place) → is_opening p ≡ false → is_opening q ≡ false → is_opening (cond t p q) ≡ false
of_two true p q e f = e
of_two false p q e f = f

of_both : (t : Bool) (p q : Reader) → is_opening p.place ≡ false → is_opening q.place ≡ false → is_opening (cond t p q).place ≡ false
of_both true p q e f = e
of_both false p q e f = f

neither : (t : Bool) (p q : Reader) {A : Type 0} → is_opening p.place ≡ false → is_opening q.place ≡ false → is_opening (cond t p q).place ≡ true → A
neither t p q e f h = absurd (false≢true (sym (of_both t p q e f) ∙ h))

pub was_opening_at : (place : Place) (time next : ℕ) (values : List Bool) (b : ℕ) → is_opening (byte_of (reader_at place time next values) b).place ≡ true
    → is_opening place ≡ true
unfolding byte_of at_first_value at_first_code at_first_end at_closing at_line at_time at_code at_end
was_opening_at (Opening at) time next values b h = refl
was_opening_at FirstValue time next values b h = neither (is_value b && ltb next wires) _ _ refl refl h
was_opening_at FirstCode time next values b h = neither (leb first_code b && eqb (suc (wire_of b)) next) _ _ refl refl h
was_opening_at FirstEnd time next values b h = neither (eqb b lf) _ _ (of_two (ltb next wires) FirstValue (Closing 0) refl refl) refl h
was_opening_at (Closing at) time next values b h =
    neither (ltb at (length closing_text) && eqb b (get_or closing_text at 0)) _ _ (of_two (eqb (suc at) (length closing_text)) Line (Closing (suc at)) refl refl) refl h
was_opening_at Line time next values b h = neither (eqb b hash && ltb 0 next) _ _ refl (of_both (is_value b) _ _ refl refl) h
was_opening_at (Time n) time next values b h =
    neither (is_digit b && (ltb 0 (with_digit n b) && ltb (with_digit n b) (2 ^ 64))) _ _ refl (of_both (eqb b lf && ltb time n) _ _ refl refl) h
was_opening_at (Code value) time next values b h =
    neither (leb first_code b && (leb next (wire_of b) && (ltb (wire_of b) wires && differ (get_or values (wire_of b) false) value))) _ _ refl refl h
was_opening_at End time next values b h = neither (eqb b lf) _ _ refl refl h
was_opening_at Bad time next values b h = h

pub was_opening : (r : Reader) (b : ℕ) → is_opening (byte_of r b).place ≡ true → is_opening r.place ≡ true
was_opening r b = was_opening_at r.place r.time r.next r.values b

-- ---- A byte that begins a moment changes no value

begun_in : (place : Place) (time next : ℕ) (values : List Bool) (b : ℕ) → begins (reader_at place time next values) b ≡ true
    → (byte_of (reader_at place time next values) b).values ≡ values
unfolding complete begins byte_of at_line
begun_in (Opening at) time next values b e = absurd (false≢true e)
begun_in FirstValue time next values b e = absurd (false≢true e)
begun_in FirstCode time next values b e = absurd (false≢true e)
begun_in FirstEnd time next values b e = absurd (false≢true e)
begun_in (Closing at) time next values b e = absurd (false≢true e)
begun_in Line time next values b e = by_tests (eqb b hash && ltb 0 next) (is_value b) where
  by_tests : (s t : Bool)
      → (cond s (reader_at (Time 0) time next values) (cond t (reader_at (Code (value_of b)) time next values) (reader_at Bad time next values))).values ≡ values
  by_tests true t = refl
  by_tests false true = refl
  by_tests false false = refl
begun_in (Time n) time next values b e = absurd (false≢true e)
begun_in (Code value) time next values b e = absurd (false≢true e)
begun_in End time next values b e = absurd (false≢true e)
begun_in Bad time next values b e = absurd (false≢true e)

pub begun_values : (r : Reader) (b : ℕ) → begins r b ≡ true → (byte_of r b).values ≡ r.values
begun_values r b = begun_in r.place r.time r.next r.values b
