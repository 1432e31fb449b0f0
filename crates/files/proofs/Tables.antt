-- Cut at CRLF and at commas, a file is the output header and the fields that are told of each row of the input, in their order.
-- Assumes nothing.
use Prim.Native.Nat.{ℕ, zero, suc}
use native.Mathlib.Omega.{arith}
use mathlib.Core.Bool.{Bool, true, false, ◌&&◌}
use mathlib.Core.List.{List, [], ◌∷◌, ◌++◌, map, map-append}
use mathlib.Core.Path.{◌≡◌, refl, sym, ap, subst, ◌∙◌}
use borrow.Author.Tests.{leb-true}
use lib.Dec.{T, leb}
use lib.ListN.{replicate}
use Rattle.common.specs.Ascii.{crlf, joined_by_commas}
use Rattle.common.specs.Decimal.{decimal, digit0}
use Rattle.lines.specs.Rows.{before, rows_of}
use Rattle.trace.specs.Rows.{fields_of}
use Rattle.trace.proofs.Commas.{Over, AllOver, split_joined}
use Rattle.trace.proofs.Decimals.{decimal_over}
use Rattle.sequence.specs.declared.Doors.{Doors}
use Rattle.sequence.specs.declared.Doors.TheVariants.{Closed, Opening, Open, Closing}
use Rattle.sequence.specs.declared.Gears.{Gears}
use Rattle.sequence.specs.declared.Gears.TheVariants.{Retracted, Extending, Extended, Retracting}
use Rattle.names.specs.Words.{order_names, lamp_names, doors_word, gears_word}
use Rattle.controller.specs.declared.State.{State}
use Rattle.controller.specs.declared.Shown.{Shown}
use Rattle.controller.specs.Lamps.{shown_of}
use Rattle.output.specs.Rows.{header_text, on_off, shown_fields, row_text, refusal_text}
use Rattle.reading.specs.declared.Came.{Came}
use Rattle.reading.specs.declared.Came.TheVariants.{Nothing, Answered, Refused}
use Rattle.lesson.specs.Replay.{text_by, resumed_of}
use Rattle.files.specs.Told.{Told, told, texts_of}
use Rattle.files.specs.Tables.{table_in, fields_by, table_of}
use Rattle.files.proofs.Cutting.{cut_row, fields, all_digits}
use Rattle.files.proofs.Told.{written_is_told}

-- ---- No byte of a field is a comma or a CR

-- As a test.
unfoldable over : List ℕ → Bool
over [] = true
over (b ∷ bs) = leb digit0 b && over bs

over_tested : (s : List ℕ) → over s ≡ true → Over s
unfolding over
over_tested [] e = tt
over_tested (b ∷ bs) e = by (leb digit0 b) refl e (over_tested bs) where
  by : (t : Bool) → leb digit0 b ≡ t → t && over bs ≡ true → (over bs ≡ true → Over bs) → Over (b ∷ bs)
  by true f g others = (leb-true digit0 b f, others g)
  by false f g others = absurd (subst T (sym g) tt)

on_off_over : (on : Bool) → Over (on_off on)
on_off_over on = (omega arith, tt)

doors_over : (doors : Doors) → Over (doors_word doors)
unfolding over
doors_over Closed = over_tested (doors_word Closed) refl
doors_over Opening = over_tested (doors_word Opening) refl
doors_over Open = over_tested (doors_word Open) refl
doors_over Closing = over_tested (doors_word Closing) refl

gears_over : (gears : Gears) → Over (gears_word gears)
unfolding over
gears_over Retracted = over_tested (gears_word Retracted) refl
gears_over Extending = over_tested (gears_word Extending) refl
gears_over Extended = over_tested (gears_word Extended) refl
gears_over Retracting = over_tested (gears_word Retracting) refl

number_over : (n : ℕ) → Over (decimal n)
unfolding decimal
number_over n = decimal_over 20 n

shown_over : (x : Shown) → AllOver (shown_fields x)
shown_over x = (
  on_off_over x.general,
  (
    on_off_over x.closes,
    (
      on_off_over x.opens,
      (
        on_off_over x.retracts,
        (
          on_off_over x.extends,
          (
            doors_over x.doors,
            (
              gears_over x.gears,
              (on_off_over x.lights.green, (on_off_over x.lights.orange, (on_off_over x.lights.red, tt))),
            ),
          ),
        ),
      ),
    ),
  ),
)

none_over : (n : ℕ) → AllOver (replicate n [])
none_over zero = tt
none_over (suc n) = (tt, none_over n)

-- ---- One row

row_cut : (f : List ℕ) (fs : List (List ℕ)) (rest : List ℕ) → AllOver (f ∷ fs)
    → table_in ((joined_by_commas (f ∷ fs) ++ crlf) ++ rest) ≡ (f ∷ fs) ∷ table_in rest
row_cut f fs rest h =
    ap (map fields_of) (cut_row (joined_by_commas (f ∷ fs)) rest (fields (f ∷ fs) (all_digits (f ∷ fs) h)))
    ∙ ap (λ (first : List (List ℕ)). first ∷ table_in rest) (split_joined f fs h)

told_cut : (came : Came) (state : State) (rest : List ℕ) → table_in (text_by came state ++ rest) ≡ fields_by came state ++ table_in rest
unfolding row_text refusal_text
told_cut Nothing state rest = refl
told_cut (Answered label code) state rest =
    row_cut (decimal label) (decimal code ∷ shown_fields (shown_of state)) rest
    (number_over label, (number_over code, shown_over (shown_of state)))
told_cut (Refused line refusal) state rest =
    row_cut (decimal line) (decimal refusal ∷ replicate 10 []) rest
    (number_over line, (number_over refusal, none_over 10))

-- ---- All rows

all_cut : (ts : List Told) → table_in (texts_of ts) ≡ table_of ts
unfolding texts_of table_of rows_of
all_cut [] = refl
all_cut (t ∷ ts) = told_cut t.came t.after (texts_of ts) ∙ ap (◌++◌ (fields_by t.came t.after)) (all_cut ts)

-- The header is one row.
header_cut : (rest : List ℕ) → rows_of (header_text ++ rest) ≡ rows_of header_text ++ rows_of rest
unfolding header_text order_names lamp_names joined_by_commas rows_of before
header_cut rest = refl

pub a_file_is_a_table : (state : State) (input : List ℕ)
    → table_in (resumed_of state input) ≡ table_in header_text ++ table_of (told state input)
a_file_is_a_table state input =
    ap table_in (written_is_told state input)
    ∙ ap (map fields_of) (header_cut (texts_of (told state input)))
    ∙ map-append fields_of (rows_of header_text) (rows_of (texts_of (told state input)))
    ∙ ap (◌++◌ (table_in header_text)) (all_cut (told state input))
