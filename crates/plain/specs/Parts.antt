-- Requests K3 and K6: the items of an image of the new form and its rules by name, for a person who is told what is wrong with one.
-- Assumes nothing.
use Rattle.std.specs.Prelude.{ℕ, List, [], ◌∷◌, ◌++◌}
use Rattle.common.specs.Ascii.{ascii}
use Rattle.names.specs.Words.{entry, sensor_names, order_names, closes_name, opens_name, retracts_name, extends_name}

-- Two items for each name: the name with the one behind it, and with the other.
unfoldable pub two_each : List ℕ → List ℕ → List (List ℕ) → List (List ℕ)
two_each one other [] = []
two_each one other (name ∷ names) = (name ++ one) ∷ (name ++ other) ∷ two_each one other names

-- "Per sensor its voter and held value", and behind them its odd channel and count.
unfoldable pub sensor_parts : List (List ℕ)
sensor_parts = ascii ": voter" ∷ ascii ": held value" ∷ ascii ": odd channel" ∷ ascii ": count" ∷ []

-- These for each name.
unfoldable pub four_each : List (List ℕ) → List (List ℕ)
four_each [] = []
four_each (name ∷ names) =
    (name ++ entry sensor_parts 0) ∷
    (name ++ entry sensor_parts 1) ∷
    (name ++ entry sensor_parts 2) ∷
    (name ++ entry sensor_parts 3) ∷
    four_each names

unfoldable pub sensor_items : List (List ℕ)
sensor_items = four_each sensor_names

-- "Per order, as in the output row, on and age".
unfoldable pub order_items : List (List ℕ)
order_items = two_each (ascii ": on") (ascii ": age") order_names

-- What stands behind the orders.
unfoldable pub rest_names : List (List ℕ)
rest_names = ascii "handle age" ∷ ascii "doors" ∷ ascii "gears" ∷ ascii "cause" ∷ []

-- All items of an image, in its order.
unfoldable pub item_names : List (List ℕ)
item_names = ascii "last stamp" ∷ (sensor_items ++ (order_items ++ rest_names))

-- "Any of the four orders that is on is wanted and has general_EV on": of the order that has this name.
unfoldable pub on_rule : List ℕ → List ℕ
on_rule name = name ++ ascii " is on only where it is wanted and has general_EV on"

-- The rules of an image, in the order of Rules.antt of the crate `image`.
unfoldable pub rule_words : List (List ℕ)
rule_words =
    ascii "moving gears have doors OPEN" ∷
    on_rule closes_name ∷
    on_rule opens_name ∷
    on_rule retracts_name ∷
    on_rule extends_name ∷
    ascii "doors not CLOSED without a cause has general_EV on" ∷
    ascii "an invalid sensor has a cause" ∷
    ascii "with all channels valid the odd channel is 0 exactly if the count is 0" ∷
    ascii "with one channel struck the odd channel is 0" ∷
    ascii "with the sensor invalid odd channel and count are 0" ∷
    []
