-- What the rules of this crate come to: rows of the form are taken, and nothing else is. Each way of reading undoes a way of writing.
-- Assumes nothing.
use mathlib.Core.Path.{◌≡◌, refl, sym, ◌∙◌, ap, subst}
use mathlib.Core.Bool.{Bool, true, false, cond, not}
use mathlib.Core.List.{List, [], ◌∷◌}
use Prim.Native.Nat.{ℕ, ◌≤◌}
use native.Mathlib.Omega.{arith}
use lib.Dec.{ltb, eqb}
use lib.ListN.{length, length-append}
use borrow.Author.Tests.{eq-eqb, eqb-true}
use Rattle.std.specs.Prelude.{Option, Some, None}
use Rattle.common.specs.Answers.{Answer, gives, refuses}
use Rattle.common.specs.Ascii.{joined_by_commas}
use Rattle.common.specs.Decimal.{decimal}
use Rattle.common.proofs.Decimals.{decimal_length}
use Rattle.trace.specs.Numbers.{greatest, number_of}
use Rattle.trace.specs.Rows.{fields_of, triples_of, Parts, parts, form_of, in_turn, kept, longest_row, read_row}
use Rattle.trace.specs.Header.{header_text, same_text}
use Rattle.trace.specs.Written.{triple_texts, row_text, InForm, TakenRight}
use Rattle.trace.proofs.Cases.{refusal_gives_nothing}
use Rattle.trace.proofs.Commas.{split_joined, joined_split}
use Rattle.trace.proofs.Decimals.{decimal_over}
use Rattle.trace.proofs.Decimals
use Rattle.trace.proofs.Forms.{by_form}
use Rattle.trace.proofs.Texts.{same_self, same_is_equal}
use Rattle.trace.proofs.TripleTexts.{texts_read, texts_over, texts_length, texts_written}

-- ---- Numbers

-- A number of 32 bits that is written in decimal is read as that number.
pub a_written_number_is_read : (n : ℕ) → n ≤ greatest → number_of (decimal n) ≡ gives n
a_written_number_is_read = Decimals.decimal_is_read

-- A field that is read as a number is that number in decimal, and the number has 32 bits.
pub a_read_number_is_decimal : (f : List ℕ) (n : ℕ) → number_of f ≡ gives n → (f ≡ decimal n) × (n ≤ greatest)
a_read_number_is_decimal = Decimals.read_is_decimal

-- ---- Rows

-- What a row in form bears.
abbrev bears : ℕ → ℕ → List ℕ → Parts
bears label stamp bits = record { label = label; stamp = stamp; sample = bits }

row_fields : (l s : ℕ) (bits : List ℕ) → fields_of (row_text l s bits) ≡ decimal l ∷ decimal s ∷ triple_texts 18 bits
unfolding row_text decimal
row_fields l s bits =
    split_joined (decimal l) (decimal s ∷ triple_texts 18 bits) (decimal_over 20 l, (decimal_over 20 s, texts_over 18 bits))

row_length : (l s : ℕ) (bits : List ℕ) → l ≤ greatest → s ≤ greatest → length (row_text l s bits) ≤ longest_row
unfolding row_text joined_by_commas
row_length l s bits p q =
    simp length-append (omega (arith, texts_length (decimal s) 18 bits, decimal_length 9 l (omega arith), decimal_length 9 s (omega arith)))

row_form : (row : List ℕ) (l s : ℕ) (bits : List ℕ) → InForm row l s bits → form_of (fields_of row) ≡ gives (bears l s bits)
unfolding form_of
row_form row l s bits f =
    rw (
      f.text,
      row_fields l s bits,
      a_written_number_is_read l f.label_fits,
      a_written_number_is_read s f.stamp_fits,
      texts_read 18 bits f.whole f.only_bits,
    )

-- A row of the form whose label is due is taken: its label and stamp are given, and the buffer holds its sample.
pub a_row_of_the_form_is_taken : (row : List ℕ) (l s : ℕ) (bits buffer : List ℕ) → InForm row l s bits → length buffer ≡ 54
    → read_row row (Some l) buffer ≡ (gives (l, s), bits)
unfolding in_turn
a_row_of_the_form_is_taken row l s bits buffer f size =
    by_form row (Some l) buffer size (rw f.text (row_length l s bits f.label_fits f.stamp_fits)) (sym (row_form row l s bits f))
    ∙ simp (eq-eqb l l refl)

of_fields : (row : List ℕ) (p : Parts) (fs : List (List ℕ)) → row ≡ joined_by_commas fs → form_of fs ≡ gives p
    → InForm row p.label p.stamp p.sample
unfolding form_of row_text
of_fields row p [] text h = refusal_gives_nothing h
of_fields row p (f ∷ []) text h = refusal_gives_nothing h
of_fields row p (f ∷ g ∷ ts) text h = by_parts (number_of f) (number_of g) (triples_of 18 ts) refl refl refl h where
  by_parts : (x y : Answer ℕ) (z : Answer (List ℕ)) → number_of f ≡ x → number_of g ≡ y → triples_of 18 ts ≡ z → parts x y z ≡ gives p
      → InForm row p.label p.stamp p.sample
  by_parts (gives l) (gives s) (gives bits) i j k e =
      let label = a_read_number_is_decimal f l i in
      let stamp = a_read_number_is_decimal g s j in
      let sample = texts_written 18 ts bits k in
      let all : bears l s bits ≡ p = cc in
      subst (λ (q : Parts). InForm row q.label q.stamp q.sample) all (record {
        label_fits = label.1;
        stamp_fits = stamp.1;
        whole = sample.size;
        only_bits = sample.only_bits;
        text = text ∙ rw (label.0, stamp.0, sample.texts);
      })
  by_parts (gives l) (gives s) (refuses n) i j k e = refusal_gives_nothing e
  by_parts (gives l) (refuses n) z i j k e = refusal_gives_nothing e
  by_parts (refuses n) y z i j k e = refusal_gives_nothing e

-- And what is taken is a row of the form whose label was due, read into a buffer of 54 bytes.
pub what_is_taken_is_of_the_form : (row : List ℕ) (due : Option ℕ) (buffer : List ℕ) (l s : ℕ) (after : List ℕ)
    → read_row row due buffer ≡ (gives (l, s), after) → TakenRight row due buffer l s after
unfolding read_row in_turn
what_is_taken_is_of_the_form row due buffer l s after h =
    by_tests (eqb (length buffer) 54) (ltb longest_row (length row)) refl h where
      by_label : (p : Parts) (d : ℕ) (t : Bool) → form_of (fields_of row) ≡ gives p → eqb p.label d ≡ t → length buffer ≡ 54
          → kept (cond t (gives p) (refuses 7)) buffer ≡ (gives (l, s), after) → TakenRight row (Some d) buffer l s after
      by_label p d true form due size e =
          let head : ◌≡◌ {A = Answer (ℕ × ℕ)} (gives (p.label, p.stamp)) (gives (l, s)) = ap (λ x. x.0) e in
          let pair : ◌≡◌ {A = ℕ × ℕ} (p.label, p.stamp) (l, s) = cc in
          let label : p.label ≡ l = ap (λ x. x.0) pair in
          let stamp : p.stamp ≡ s = ap (λ x. x.1) pair in
          let sample : p.sample ≡ after = ap (λ x. x.1) e in
          record {
            in_form = rw (← label, ← stamp, ← sample) (of_fields row p (fields_of row) (sym (joined_split row)) form);
            was_due = ap (λ (n : ℕ). Some n) (sym (eqb-true p.label d due) ∙ label);
            room = size;
          }
      by_label p d false form due size e = refusal_gives_nothing (ap (λ x. x.0) e)

      by_answer : (f : Answer Parts) (due : Option ℕ) → form_of (fields_of row) ≡ f → length buffer ≡ 54
          → kept (in_turn f due) buffer ≡ (gives (l, s), after) → TakenRight row due buffer l s after
      by_answer (refuses n) due form size e = refusal_gives_nothing (ap (λ x. x.0) e)
      by_answer (gives p) None form size e = refusal_gives_nothing (ap (λ x. x.0) e)
      by_answer (gives p) (Some d) form size e = by_label p d (eqb p.label d) form refl size e

      by_tests : (x y : Bool) → eqb (length buffer) 54 ≡ x
          → ◌≡◌ {A = Answer (ℕ × ℕ) × List ℕ}
          (cond (not x) (refuses 8, buffer) (cond y (refuses 6, buffer) (kept (in_turn (form_of (fields_of row)) due) buffer)))
          (gives (l, s), after)
          → TakenRight row due buffer l s after
      by_tests true true size e = refusal_gives_nothing (ap (λ x. x.0) e)
      by_tests true false size e = by_answer (form_of (fields_of row)) due refl (eqb-true (length buffer) 54 size) e
      by_tests false y size e = refusal_gives_nothing (ap (λ x. x.0) e)

-- ---- The header

-- The header is known for the header, and no other row is.
pub the_header_is_known : same_text header_text header_text ≡ true
the_header_is_known = same_self header_text

pub what_is_known_is_the_header : (row : List ℕ) → same_text row header_text ≡ true → row ≡ header_text
what_is_known_is_the_header row h = same_is_equal row header_text h
