-- Request K4: the table as one number, so that what was printed can be held to what runs.
-- Assumes nothing.
use Rattle.std.specs.Prelude.{ℕ, suc, ◌+◌, ◌*◌, get_or, set}
use mathlib.Core.List.{List, [], ◌∷◌, flatten}
use Rattle.table.specs.Table.{ruled_at, table}

-- A list's elements added up, each times its place, where the first has this place.
unfoldable pub weighed_from : ℕ → List ℕ → ℕ
weighed_from place [] = 0
weighed_from place (entry ∷ others) = place * entry + weighed_from (suc place) others

-- The number of any entries, in their order: an entry counts as often as its number and one say.
abbrev pub number_of_all : List ℕ → ℕ
number_of_all all = weighed_from 1 all

-- What the rule's entry at a number adds to it.
abbrev pub weighed_at : ℕ → ℕ
weighed_at n = (n + 1) * ruled_at n

-- The number of the table: the sum of (number + 1) x (4 x next doors + next gears) over its entries.
unfoldable pub table_number : ℕ
table_number = number_of_all (flatten table)

-- Two entries exchanged.
abbrev pub exchanged : ℕ → ℕ → List ℕ → List ℕ
exchanged i j all = set (set all i (get_or all j 0)) j (get_or all i 0)
