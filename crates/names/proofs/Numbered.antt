-- The handle's words as a list, each at its place.
-- Assumes nothing.
use Prim.Native.Nat.{ℕ}
use mathlib.Core.List.{List, [], ◌∷◌}
use mathlib.Core.Path.{◌≡◌, refl}
use Rattle.sequence.specs.declared.Aim.{Aim}
use Rattle.sequence.specs.declared.Aim.TheVariants.{ToRetracted, ToExtended}
use Rattle.sequence.specs.Numbers.{handle_number}
use Rattle.names.specs.Words.{entry, handle_word}

abbrev pub handle_words : List (List ℕ)
handle_words = handle_word ToRetracted ∷ handle_word ToExtended ∷ []

pub handle_word_lem : (aim : Aim) → entry handle_words (handle_number aim) ≡ handle_word aim
handle_word_lem ToRetracted = refl
handle_word_lem ToExtended = refl
