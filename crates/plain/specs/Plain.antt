-- Requests K3 and K6: an image in plain words, each item by name, a line for each name; the items of a sensor or an order share a line. Odd channel
-- and count are told only where they are not 0.
-- Assumes nothing.
use Rattle.std.specs.Prelude.{ℕ, suc, ◌+◌, Bool, true, false, cond, List, [], ◌∷◌, ◌++◌, eqb, ltb, length}
use Rattle.common.specs.Ascii.{ascii, lf}
use Rattle.common.specs.Bits.{bit}
use Rattle.common.specs.Decimal.{decimal, digit0}
use Rattle.voter.specs.declared.Voter.{Voter}
use Rattle.voter.specs.Voting.{value_of}
use Rattle.voter.specs.Numbers.{number_of}
use Rattle.sequence.specs.declared.Place.{Place}
use Rattle.orders.specs.declared.Order.{Order}
use Rattle.orders.specs.declared.Orders.{Orders}
use Rattle.controller.specs.declared.Core.{Core}
use Rattle.controller.specs.declared.State.{State}
use Rattle.names.specs.Words.{
  entry,
  sensor_names,
  general_name,
  closes_name,
  opens_name,
  retracts_name,
  extends_name,
  voter_words,
  cause_words,
  doors_word,
  gears_word,
}

-- A line: its name, what is said, and LF.
unfoldable pub line : List ℕ → List ℕ → List ℕ
line name said = name ++ ascii ": " ++ said ++ lf ∷ []

-- ---- What is said

-- So many samples.
unfoldable pub in_samples : ℕ → List ℕ
in_samples n = decimal n ++ cond (eqb n 1) (ascii " sample") (ascii " samples")

-- What stands against a channel or, with two valid, against both: the odd channel and the count. Nothing where both are 0.
unfoldable pub of_odd : ℕ → ℕ → List ℕ
of_odd odd count = ascii ", channel " ++ decimal odd ++ ascii " odd in " ++ in_samples count

unfoldable pub of_count : ℕ → ℕ → List ℕ
of_count odd count = cond (eqb odd 0) (cond (eqb count 0) [] (ascii ", the two differed in " ++ in_samples count)) (of_odd odd count)

-- A sensor: its voter and held value, and what stands against a channel.
unfoldable pub of_held : Voter → List ℕ
of_held v = ascii ", held " ++ (digit0 + bit (value_of v)) ∷ []

unfoldable pub of_sensor : Voter → List ℕ
of_sensor v = entry voter_words (number_of v) ++ of_held v ++ of_count v.odd v.count

-- What follows the voter in its line, with the LF.
unfoldable pub held_line : Voter → List ℕ
held_line v = of_held v ++ of_count v.odd v.count ++ lf ∷ []

-- A time in ms.
unfoldable pub in_ms : ℕ → List ℕ
in_ms ms = decimal ms ++ ascii " ms"

-- An order: on or off, and its age.
abbrev pub on_or_off : Bool → List ℕ
on_or_off true = ascii "on"
on_or_off false = ascii "off"

unfoldable pub of_order : Order → List ℕ
of_order o = on_or_off o.on ++ ascii ", age " ++ in_ms o.age

-- A cause. (A number that is no cause is shown as it is: no image that is taken has one.)
unfoldable pub of_cause : ℕ → List ℕ
of_cause cause = cond (ltb cause (length cause_words)) (entry cause_words cause) (decimal cause)

-- ---- The lines

-- The sensors, from this one on.
unfoldable pub sensor_lines : ℕ → List Voter → List ℕ
sensor_lines k [] = []
sensor_lines k (v ∷ vs) = line (entry sensor_names k) (of_sensor v) ++ sensor_lines (suc k) vs

-- The orders, as in the output row.
unfoldable pub order_lines : Orders → List ℕ
order_lines os =
    line general_name (of_order os.general) ++
    line closes_name (of_order os.closes) ++
    line opens_name (of_order os.opens) ++
    line retracts_name (of_order os.retracts) ++
    line extends_name (of_order os.extends)

-- Doors and gears.
unfoldable pub place_lines : Place → List ℕ
place_lines p = line (ascii "doors") (doors_word p.doors) ++ line (ascii "gears") (gears_word p.gears)

-- Handle age, doors and gears, cause.
unfoldable pub rest_lines : Core → List ℕ
rest_lines c = line (ascii "handle age") (in_ms c.since) ++ place_lines c.place ++ line (ascii "cause") (of_cause c.cause)

-- The controller in plain words.
unfoldable pub plain_of : State → List ℕ
plain_of s =
    line (ascii "last stamp") (decimal s.stamp) ++ sensor_lines 0 s.voters ++ order_lines s.core.orders ++ rest_lines s.core
