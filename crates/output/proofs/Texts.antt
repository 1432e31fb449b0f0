-- The texts of the rows are the pieces that the code puts together.
-- Assumes nothing.
use Prim.Native.Nat.{ℕ}
use mathlib.Core.List.{List, [], ◌∷◌, ◌++◌, append_assoc}
use mathlib.Core.Path.{◌≡◌}
use lib.ListN.{replicate}
use Rattle.common.specs.Ascii.{comma, crlf, joined_by_commas}
use Rattle.common.specs.Decimal.{decimal}
use Rattle.controller.specs.declared.Shown.{Shown}
use Rattle.names.specs.Words.{doors_word, gears_word}
use Rattle.output.specs.Pieces.{head_piece, tail_piece, orders_piece, lights_piece}
use Rattle.output.specs.Rows.{shown_fields, row_text, refusal_text}

two_fields : (a b f : List ℕ) (fs : List (List ℕ)) → joined_by_commas (a ∷ b ∷ f ∷ fs) ++ crlf ≡ (a ++ comma ∷ b) ++ tail_piece (f ∷ fs)
unfolding joined_by_commas
two_fields a b f fs = simp append_assoc

pub row_text_lem : (label code : ℕ) (s : Shown) → row_text label code s ≡ head_piece label code ++ tail_piece (shown_fields s)
unfolding row_text
row_text_lem label code s = two_fields (decimal label) (decimal code) _ _

pub refusal_text_lem : (line refusal : ℕ) → refusal_text line refusal ≡ head_piece line refusal ++ tail_piece (replicate 10 [])
unfolding refusal_text
refusal_text_lem line refusal = two_fields (decimal line) (decimal refusal) _ _

pub shown_text : (s : Shown)
    → orders_piece s ++ doors_word s.doors ++ (comma ∷ []) ++ gears_word s.gears ++ lights_piece s.lights ≡ tail_piece (shown_fields s)
unfolding joined_by_commas
shown_text s = simp append_assoc
