-- How long names and words are at most, for rooms.
-- Assumes nothing.
use Prim.Native.Nat.{ℕ, zero, suc, ◌≤◌, max}
use native.Mathlib.Omega.{arith}
use mathlib.Core.List.{List, [], ◌∷◌}
use mathlib.Core.Path.{◌≡◌, refl}
use lib.ListN.{length}
use Rattle.common.specs.Ascii.{joined_by_commas}
use Rattle.sequence.specs.declared.Doors.{Doors}
use Rattle.sequence.specs.declared.Doors.TheVariants.{Closed, Opening, Open, Closing}
use Rattle.sequence.specs.declared.Gears.{Gears}
use Rattle.sequence.specs.declared.Gears.TheVariants.{Retracted, Extending, Extended, Retracting}
use Rattle.names.specs.Words.{entry, sensor_names, order_names, lamp_names, voter_words, cause_words, doors_word, gears_word}

-- The length of the longest word of a list, and that no word is longer.
abbrev pub longest : List (List ℕ) → ℕ
longest [] = 0
longest (w ∷ ws) = max (length w) (longest ws)

pub to_longest : (ws : List (List ℕ)) (k : ℕ) → length (entry ws k) ≤ longest ws
to_longest [] k = omega arith
to_longest (w ∷ ws) zero = omega arith
to_longest (w ∷ ws) (suc k) = let rest = to_longest ws k in omega (arith, rest)

-- ---- One of a list

pub sensor_length : (k : ℕ) → length (entry sensor_names k) ≤ 25
unfolding sensor_names
sensor_length k = to_longest sensor_names k

pub voter_length : (k : ℕ) → length (entry voter_words k) ≤ 18
unfolding voter_words
voter_length k = to_longest voter_words k

pub cause_length : (k : ℕ) → length (entry cause_words k) ≤ 68
unfolding cause_words
cause_length k = to_longest cause_words k

-- ---- By cases

pub doors_length : (doors : Doors) → length (doors_word doors) ≤ 7
doors_length Closed = omega arith
doors_length Opening = omega arith
doors_length Open = omega arith
doors_length Closing = omega arith

pub gears_length : (gears : Gears) → length (gears_word gears) ≤ 10
gears_length Retracted = omega arith
gears_length Extending = omega arith
gears_length Extended = omega arith
gears_length Retracting = omega arith

-- ---- All of a list, with commas

pub sensor_names_length : length (joined_by_commas sensor_names) ≡ 342
unfolding joined_by_commas sensor_names
sensor_names_length = refl

pub order_names_length : length (joined_by_commas order_names) ≡ 48
unfolding joined_by_commas order_names
order_names_length = refl

pub lamp_names_length : length (joined_by_commas lamp_names) ≡ 16
unfolding joined_by_commas lamp_names
lamp_names_length = refl
