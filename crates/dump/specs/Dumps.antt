-- Request K2: the value change dump, from a list of times and values to all its bytes.
-- Assumes nothing.
use Rattle.std.specs.Prelude.{ℕ, suc, ◌+◌, ◌*◌, ◌^◌, ◌<◌, Bool, true, false, cond, List, [], ◌∷◌, ◌++◌, ◌≡◌, length}
use Rattle.common.specs.Ascii.{ascii, lf}
use Rattle.common.specs.Bits.{bit}
use Rattle.common.specs.Decimal.{decimal, digit0}
use Rattle.dump.specs.Wires.{wire_names, wires, first_code}

-- ---- What is dumped

-- A time in ms from the start stamp, and the values of the wires at it.
pub record Moment : Type 0 where
  pub time : ℕ
  pub values : List Bool

-- Moments that follow a time: times that rise and stay below 2 ^ 64, and a value for each wire.
abbrev pub RisesFrom : ℕ → List Moment → Type 0
RisesFrom t [] = Unit {0}
RisesFrom t (m ∷ ms) = (t < m.time) × (m.time < 2 ^ 64) × (length m.values ≡ wires) × RisesFrom m.time ms

-- What a dump is of: at least one moment, the first at time 0, and times that rise.
abbrev pub Rising : List Moment → Type 0
Rising [] = ⊥
Rising (m ∷ ms) = (m.time ≡ 0) × (length m.values ≡ wires) × RisesFrom 0 ms

-- ---- Lines

-- Lines end in LF.
abbrev pub line : List ℕ → List ℕ
line text = text ++ lf ∷ []

-- For each wire what is written of it, in order: by its code, which is the next for each next wire, and what it has there.
unfoldable pub lines_from : {A : Type 0} → (ℕ → A → List ℕ) → ℕ → List A → List ℕ
lines_from text code [] = []
lines_from text code (x ∷ xs) = text code x ++ lines_from text (suc code) xs

-- A wire is declared by its code and its name.
unfoldable pub declaration : ℕ → List ℕ → List ℕ
declaration code name = ascii "$var wire 1 " ++ code ∷ ascii " " ++ name ++ line (ascii " $end")

abbrev pub declarations : ℕ → List (List ℕ) → List ℕ
declarations code names = lines_from declaration code names

-- The lines before the declarations, and those behind them, up to the first value.
abbrev pub lines_before : List ℕ
lines_before = line (ascii "$timescale 1 ms $end") ++ line (ascii "$scope module rig $end")

abbrev pub lines_behind : List ℕ
lines_behind =
    line (ascii "$upscope $end") ++
    line (ascii "$enddefinitions $end") ++
    line (ascii "#0") ++
    line (ascii "$dumpvars")

-- What every dump begins with, up to the first value.
unfoldable pub opening_text : List ℕ
opening_text = lines_before ++ declarations first_code wire_names ++ lines_behind

-- A wire's value: the value, and the wire's code.
abbrev pub value_line : ℕ → Bool → List ℕ
value_line code value = line ((digit0 + bit value) ∷ code ∷ [])

-- The values of all wires, in order.
abbrev pub value_lines : ℕ → List Bool → List ℕ
value_lines code values = lines_from value_line code values

-- What follows the first values.
unfoldable pub closing_text : List ℕ
closing_text = line (ascii "$end")

-- The head of a dump: the definitions, and the values at time 0.
unfoldable pub head_text : List Bool → List ℕ
head_text values = opening_text ++ value_lines first_code values ++ closing_text

-- The bytes of what every dump begins with, of what follows the first values, and of the whole head.
abbrev pub opening_length : ℕ
opening_length = 995

abbrev pub closing_length : ℕ
closing_length = 5

abbrev pub head_length : ℕ
head_length = opening_length + 3 * wires + closing_length

-- ---- Changes

-- A wire changes where its values before and after differ.
abbrev pub differ : Bool → Bool → Bool
differ false false = false
differ false true = true
differ true false = true
differ true true = false

-- A wire that changes is written with its new value; one that does not, is not.
abbrev pub change_line : ℕ → Bool → Bool → List ℕ
change_line code old new = cond (differ old new) (value_line code new) []

-- The changed wires, in order: the values before, and the values after.
unfoldable pub changes_from : ℕ → List Bool → List Bool → List ℕ
changes_from code [] news = []
changes_from code (old ∷ olds) [] = []
changes_from code (old ∷ olds) (new ∷ news) = change_line code old new ++ changes_from (suc code) olds news

-- `#` and the time.
abbrev pub hash : ℕ
hash = 35

abbrev pub time_line : ℕ → List ℕ
time_line time = hash ∷ line (decimal time)

-- It has at most 22 bytes, as a time has at most 20 digits; and so a moment has at most 100.
abbrev pub time_room : ℕ
time_room = 22

abbrev pub moment_room : ℕ
moment_room = time_room + 3 * wires

-- A time at which something changes, and the changes; a time at which nothing changes is not written.
abbrev pub timed : ℕ → List ℕ → List ℕ
timed time [] = []
timed time (b ∷ changes) = time_line time ++ b ∷ changes

-- A moment, after one with these values.
unfoldable pub moment_text : List Bool → Moment → List ℕ
moment_text before m = timed m.time (changes_from first_code before m.values)

-- The later moments, after one with these values.
unfoldable pub later_text : List Bool → List Moment → List ℕ
later_text before [] = []
later_text before (m ∷ ms) = moment_text before m ++ later_text m.values ms

-- ---- The whole dump

unfoldable pub dump_of : List Moment → List ℕ
dump_of [] = []
dump_of (m ∷ ms) = head_text m.values ++ later_text m.values ms
