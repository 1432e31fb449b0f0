-- Lines that the code puts together of other pieces than the rule does: a piece goes on past what is said, or on to the next line.
-- Assumes nothing.
use Prim.Native.Nat.{ℕ}
use mathlib.Core.List.{List, [], ◌∷◌, ◌++◌, append_assoc}
use mathlib.Core.Path.{◌≡◌}
use Rattle.common.specs.Ascii.{ascii, lf}
use Rattle.common.specs.Decimal.{decimal}
use Rattle.voter.specs.declared.Voter.{Voter}
use Rattle.voter.specs.Numbers.{number_of}
use Rattle.sequence.specs.declared.Place.{Place}
use Rattle.orders.specs.declared.Order.{Order}
use Rattle.names.specs.Words.{entry, voter_words, doors_word, gears_word}
use Rattle.plain.specs.Plain.{line, held_line, of_sensor, in_ms, on_or_off, of_order, place_lines}

-- A sensor's voter, and what follows it in the line.
pub sensor_text : (name : List ℕ) (v : Voter) → name ++ ascii ": " ++ (entry voter_words (number_of v) ++ held_line v) ≡ line name (of_sensor v)
unfolding line held_line of_sensor
sensor_text name v = simp append_assoc

-- A time, and the line's end.
abbrev timed : ℕ → List ℕ
timed ms = decimal ms ++ (ascii " ms" ++ lf ∷ [])

pub order_text : (name : List ℕ) (o : Order) → name ++ (ascii ": " ++ on_or_off o.on ++ ascii ", age ") ++ timed o.age ≡ line name (of_order o)
unfolding line in_ms of_order
order_text name o = simp append_assoc

pub age_text : (since : ℕ) → ascii "handle age: " ++ timed since ≡ line (ascii "handle age") (in_ms since)
unfolding line in_ms
age_text since = simp append_assoc

-- Two lines.
two : (a b c d : List ℕ) → a ++ b ++ (lf ∷ c) ++ d ++ lf ∷ [] ≡ (a ++ b ++ lf ∷ []) ++ (c ++ d ++ lf ∷ [])
two a b c d = simp append_assoc

pub place_text : (p : Place)
    → ascii "doors: " ++ doors_word p.doors ++ (lf ∷ ascii "gears: ") ++ gears_word p.gears ++ lf ∷ [] ≡ place_lines p
unfolding line place_lines
place_text p = two (ascii "doors: ") (doors_word p.doors) (ascii "gears: ") (gears_word p.gears)
