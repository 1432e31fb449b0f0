-- How long a row is with its CRLF: the digits of its two numbers, the two words, and 21 bytes that every row has.
-- Assumes nothing.
use Prim.Native.Nat.{ℕ, ◌+◌, ◌^◌, ◌<◌, ◌≤◌}
use native.Mathlib.Omega.{arith}
use mathlib.Core.Bool.{Bool, true, false, not, ◌||◌}
use mathlib.Core.Path.{◌≡◌, refl, ap, ◌∙◌}
use lib.Dec.{T, lit≤}
use lib.ListN.{length, length-append}
use Rattle.common.specs.Ascii.{joined_by_commas}
use Rattle.common.specs.Decimal.{decimal}
use Rattle.common.proofs.Decimals.{decimal_length}
use Rattle.sequence.specs.declared.Doors.{Doors}
use Rattle.sequence.specs.declared.Doors.TheVariants.{Closed, Opening, Open, Closing}
use Rattle.sequence.specs.declared.Gears.{Gears}
use Rattle.sequence.specs.declared.Gears.TheVariants.{Retracted, Extending, Extended, Retracting}
use Rattle.sequence.specs.Places.{are_open, are_moving, moving_have_open}
use Rattle.names.specs.Words.{doors_word, gears_word, order_names, lamp_names}
use Rattle.names.proofs.Lengths.{doors_length, gears_length}
use Rattle.controller.specs.declared.Shown.{Shown}
use Rattle.output.specs.Pieces.{head_piece, tail_piece}
use Rattle.output.specs.Rows.{shown_fields, header_text, row_text, refusal_text}
use Rattle.output.proofs.Texts.{row_text_lem, refusal_text_lem}

-- ---- The length of a row, whatever it shows.

pub head_length : (number code : ℕ) → length (head_piece number code) ≡ length (decimal number) + length (decimal code) + 1
head_length number code = simp length-append (omega arith)

pub shown_length : (s : Shown) → length (tail_piece (shown_fields s)) ≡ length (doors_word s.doors) + length (gears_word s.gears) + 20
unfolding joined_by_commas
shown_length s = simp length-append (omega arith)

pub row_length : (label code : ℕ) (s : Shown)
    → length (row_text label code s) ≡ length (decimal label) + length (decimal code) + length (doors_word s.doors) + length (gears_word s.gears) + 21
row_length label code s =
    let whole = ap length (row_text_lem label code s) ∙ length-append (head_piece label code) (tail_piece (shown_fields s)) in
    omega (arith, head_length label code, shown_length s)

pub refusal_length : (line refusal : ℕ) → length (refusal_text line refusal) ≡ length (decimal line) + length (decimal refusal) + 13
unfolding joined_by_commas
refusal_length line refusal = ap length (refusal_text_lem line refusal) ∙ simp length-append (omega arith)

-- ---- What is put together in a line fits it: a header of 128 bytes, a row of 64.

pub header_89 : length header_text ≡ 89
unfolding header_text joined_by_commas order_names lamp_names
header_89 = refl

pub row_at_most_61 : (label code : ℕ) (s : Shown) → label < 2 ^ 64 → code < 2 ^ 8 → length (row_text label code s) ≤ 61
row_at_most_61 label code s n c =
    omega (
      arith,
      row_length label code s,
      decimal_length 19 label (omega arith),
      decimal_length 2 code (omega arith),
      doors_length s.doors,
      gears_length s.gears,
    )

pub refusal_at_most_37 : (line refusal : ℕ) → line < 2 ^ 64 → refusal < 2 ^ 8 → length (refusal_text line refusal) ≤ 37
refusal_at_most_37 line refusal n c =
    omega (arith, refusal_length line refusal, decimal_length 19 line (omega arith), decimal_length 2 refusal (omega arith))

-- ---- A row of any label and any code of one digit is at most 49 bytes long, whatever it shows.

pub row_at_most_49 : (label code : ℕ) (s : Shown) → label < 2 ^ 32 → code < 10 → length (row_text label code s) ≤ 49
row_at_most_49 label code s l c =
    omega (
      arith,
      row_length label code s,
      decimal_length 9 label (omega arith),
      decimal_length 0 code (omega arith),
      doors_length s.doors,
      gears_length s.gears,
    )

-- ---- Where moving gears have doors OPEN, as the sequence has it, 48.

at_rest_length : (g : Gears) → T (not (are_moving g)) → length (gears_word g) ≤ 9
at_rest_length Retracted h = lit≤ tt
at_rest_length Extending h = absurd h
at_rest_length Extended h = lit≤ tt
at_rest_length Retracting h = absurd h

open_length : (d : Doors) → T (are_open d) → length (doors_word d) ≤ 4
open_length Closed h = absurd h
open_length Opening h = absurd h
open_length Open h = lit≤ tt
open_length Closing h = absurd h

words_length : (d : Doors) (g : Gears) (rests : Bool) → T (rests || are_open d) → (T rests → length (gears_word g) ≤ 9) → length (doors_word d) + length (gears_word g) ≤ 16
words_length d g true h rest = omega (arith, doors_length d, rest tt)
words_length d g false h rest = omega (arith, open_length d h, gears_length g)

pub row_at_most_48 : (label code : ℕ) (s : Shown) → label < 2 ^ 32 → code < 10 → T (moving_have_open (record { doors = s.doors; gears = s.gears })) → length (row_text label code s) ≤ 48
unfolding moving_have_open
row_at_most_48 label code s l c h =
    omega (
      arith,
      row_length label code s,
      decimal_length 9 label (omega arith),
      decimal_length 0 code (omega arith),
      words_length s.doors s.gears (not (are_moving s.gears)) h (at_rest_length s.gears),
    )

-- ---- A refusal's row on a line that a trace can have, with a refusal of one digit, is at most 24.

pub refusal_at_most_24 : (line refusal : ℕ) → line < 2 ^ 33 → refusal < 10 → length (refusal_text line refusal) ≤ 24
refusal_at_most_24 line refusal l r =
    omega (
      arith,
      refusal_length line refusal,
      decimal_length 9 line (omega arith),
      decimal_length 0 refusal (omega arith),
    )
