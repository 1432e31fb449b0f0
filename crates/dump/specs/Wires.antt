-- Request K2: the wires of a dump. The five orders as in the output row, the three lamps, and the 18 voted values as in the sample.
-- Assumes nothing.
use Rattle.std.specs.Prelude.{ℕ, List, ◌++◌}
use Rattle.names.specs.Words.{order_names, lamp_names, sensor_names}

-- The names of the wires, in their order.
unfoldable pub wire_names : List (List ℕ)
wire_names = order_names ++ lamp_names ++ sensor_names

-- There are 26.
abbrev pub wires : ℕ
wires = 26

-- The codes are `!` to `:` in ASCII order: this is the first wire's, and each next wire has the next.
abbrev pub first_code : ℕ
first_code = 33
