-- Request K2: the reader of dumps, byte by byte: what each byte comes to at each place of a dump. A byte that is not taken is one that
-- no dump has there, and is refused for good, with 9.
-- Assumes nothing.
use Rattle.std.specs.Prelude.{ℕ, suc, ◌+◌, ◌-◌, ◌*◌, ◌^◌, Bool, false, cond, ◌&&◌, ◌||◌, List, eqb, leb, ltb, length, get_or, set, replicate}
use Rattle.common.specs.Ascii.{lf}
use Rattle.common.specs.Decimal.{digit0}
use Rattle.dump.specs.Wires.{wires, first_code}
use Rattle.dump.specs.Dumps.{opening_text, closing_text, hash, differ}
use Rattle.readback.specs.declared.Place.{Place}
use Rattle.readback.specs.declared.Place.TheVariants.{Opening, FirstValue, FirstCode, FirstEnd, Closing, Line, Time, Code, End, Bad}
use Rattle.readback.specs.declared.Reader.{Reader}

-- The reader before the first byte: nothing is read of what every dump begins with.
unfoldable pub new_reader : Reader
new_reader = record { place = Opening 0; time = 0; next = 0; values = replicate wires false }

-- The reader at another place.
abbrev pub moved : Reader → Place → Reader
moved r place = record { place = place; time = r.time; next = r.next; values = r.values }

-- A byte that no dump has there.
abbrev pub bad : Reader → Reader
bad r = moved r Bad

-- A value, 0 or 1.
abbrev pub is_value : ℕ → Bool
is_value b = eqb b digit0 || eqb b (digit0 + 1)

abbrev pub value_of : ℕ → Bool
value_of b = eqb b (digit0 + 1)

-- The wire of a code.
abbrev pub wire_of : ℕ → ℕ
wire_of b = b - first_code

-- The wire's value becomes this, and the next wire is the one after it.
abbrev pub told : Reader → Place → ℕ → Bool → Reader
told r place wire value = record { place = place; time = r.time; next = suc wire; values = set r.values wire value }

-- ---- Of the head

-- A text that every dump has, byte for byte: the byte at a place of it, and behind the last one the reader is at another place.
abbrev pub has_byte : List ℕ → ℕ → ℕ → Bool
has_byte text at b = ltb at (length text) && eqb b (get_or text at 0)

abbrev pub at_text : List ℕ → (ℕ → Place) → Place → Reader → ℕ → ℕ → Reader
at_text text on behind r at b =
    cond (has_byte text at b) (moved r (cond (eqb (suc at) (length text)) behind (on (suc at)))) (bad r)

-- What every dump begins with; behind it comes the first wire's value.
unfoldable pub at_opening : Reader → ℕ → ℕ → Reader
at_opening r at b = at_text opening_text Opening FirstValue r at b

-- The value of the next wire at time 0, its code, and LF; behind the last wire comes `$end`.
unfoldable pub at_first_value : Reader → ℕ → Reader
at_first_value r b = cond (is_value b && ltb r.next wires) (told r FirstCode r.next (value_of b)) (bad r)

unfoldable pub at_first_code : Reader → ℕ → Reader
at_first_code r b = cond (leb first_code b && eqb (suc (wire_of b)) r.next) (moved r FirstEnd) (bad r)

unfoldable pub at_first_end : Reader → ℕ → Reader
at_first_end r b = cond (eqb b lf) (moved r (cond (ltb r.next wires) FirstValue (Closing 0))) (bad r)

-- `$end`; behind it every wire has been told.
unfoldable pub at_closing : Reader → ℕ → ℕ → Reader
at_closing r at b = at_text closing_text Closing Line r at b

-- ---- Of a moment

-- Something has been told at this time, so the moment may be over.
abbrev pub may_end : Reader → Bool
may_end r = ltb 0 r.next

-- At the start of a line: `#`, where the moment before may be over, or a value.
unfoldable pub at_line : Reader → ℕ → Reader
at_line r b =
    cond (eqb b hash && may_end r) (moved r (Time 0))
    (cond (is_value b) (moved r (Code (value_of b)))
    (bad r))

-- In a time: a digit, with no zero in front and below 2 ^ 64; or LF behind a time that is above the last.
abbrev pub is_digit : ℕ → Bool
is_digit b = leb digit0 b && leb b (digit0 + 9)

abbrev pub with_digit : ℕ → ℕ → ℕ
with_digit n b = n * 10 + (b - digit0)

unfoldable pub at_time : Reader → ℕ → ℕ → Reader
at_time r n b =
    cond (is_digit b && (ltb 0 (with_digit n b) && ltb (with_digit n b) (2 ^ 64))) (moved r (Time (with_digit n b)))
    (cond (eqb b lf && ltb r.time n) (record { place = Line; time = n; next = 0; values = r.values })
    (bad r))

-- The code of a wire that is not before the next one, and whose value changes.
unfoldable pub at_code : Reader → Bool → ℕ → Reader
at_code r value b =
    cond (leb first_code b && (leb r.next (wire_of b) && (ltb (wire_of b) wires && differ (get_or r.values (wire_of b) false) value)))
    (told r End (wire_of b) value)
    (bad r)

-- LF behind a wire that changes.
unfoldable pub at_end : Reader → ℕ → Reader
at_end r b = cond (eqb b lf) (moved r Line) (bad r)

-- ---- A byte

abbrev pub byte_by : Place → Reader → ℕ → Reader
byte_by (Opening at) r b = at_opening r at b
byte_by FirstValue r b = at_first_value r b
byte_by FirstCode r b = at_first_code r b
byte_by FirstEnd r b = at_first_end r b
byte_by (Closing at) r b = at_closing r at b
byte_by Line r b = at_line r b
byte_by (Time n) r b = at_time r n b
byte_by (Code value) r b = at_code r value b
byte_by End r b = at_end r b
byte_by Bad r b = r

unfoldable pub byte_of : Reader → ℕ → Reader
byte_of r b = byte_by r.place r b
