-- Request K2: a dump taken back. What all its bytes come to, and the same by parts with the buffer that is lent.
-- Assumes nothing.
use Rattle.std.specs.Prelude.{ℕ, suc, Bool, true, false, cond, ◌&&◌, List, [], ◌∷◌, map, ◌≡◌, eqb, length}
use Rattle.common.specs.Answers.{Answer, gives, refuses}
use Rattle.common.specs.Bits.{bit}
use Rattle.dump.specs.Wires.{wires}
use Rattle.dump.specs.Dumps.{Moment, opening_text, hash}
use Rattle.readback.specs.declared.Place.{Place}
use Rattle.readback.specs.declared.Place.TheVariants.{Opening, FirstValue, FirstCode, FirstEnd, Closing, Line, Time, Code, End, Bad}
use Rattle.readback.specs.declared.Reader.{Reader}
use Rattle.readback.specs.Answers.{Took}
use Rattle.readback.specs.Bytes.{new_reader, may_end, byte_of}

-- ---- Where a moment is over

-- At the start of a line.
abbrev pub is_line : Place → Bool
is_line (Opening at) = false
is_line FirstValue = false
is_line FirstCode = false
is_line FirstEnd = false
is_line (Closing at) = false
is_line Line = true
is_line (Time n) = false
is_line (Code value) = false
is_line End = false
is_line Bad = false

-- Within what every dump begins with.
abbrev pub is_opening : Place → Bool
is_opening (Opening at) = true
is_opening FirstValue = false
is_opening FirstCode = false
is_opening FirstEnd = false
is_opening (Closing at) = false
is_opening Line = false
is_opening (Time n) = false
is_opening (Code value) = false
is_opening End = false
is_opening Bad = false

-- There its text has to be at hand.
abbrev pub AtHand : Reader → List ℕ → Type 0
AtHand r text = is_opening r.place ≡ true → text ≡ opening_text

-- Refused for good.
abbrev pub is_bad : Place → Bool
is_bad (Opening at) = false
is_bad FirstValue = false
is_bad FirstCode = false
is_bad FirstEnd = false
is_bad (Closing at) = false
is_bad Line = false
is_bad (Time n) = false
is_bad (Code value) = false
is_bad End = false
is_bad Bad = true

-- The dump may end here: a moment is complete.
unfoldable pub complete : Reader → Bool
complete r = is_line r.place && may_end r

-- The moment before is complete, and this byte begins the next one.
unfoldable pub begins : Reader → ℕ → Bool
begins r b = complete r && eqb b hash

-- The moment that was read last.
abbrev pub moment_of : Reader → Moment
moment_of r = record { time = r.time; values = r.values }

-- ---- A whole dump

-- A moment before the others.
abbrev pub before : Moment → Answer (List Moment) → Answer (List Moment)
before m (gives ms) = gives (m ∷ ms)
before m (refuses n) = refuses n

-- The moments that are read from here on, each as soon as the next one begins, and the last at the end. 9: the bytes are no dump.
unfoldable pub read_from : Reader → List ℕ → Answer (List Moment)
read_from r [] = cond (complete r) (gives (moment_of r ∷ [])) (refuses 9)
read_from r (b ∷ bytes) =
    cond (begins r b) (before (moment_of r) (read_from (byte_of r b) bytes)) (read_from (byte_of r b) bytes)

unfoldable pub read_of : List ℕ → Answer (List Moment)
read_of bytes = read_from new_reader bytes

-- ---- By parts, with a lent buffer

-- A refusal: its number, the reader as it was, and how many bytes of the part stand in front of what is refused.
abbrev pub refused : ℕ → ℕ → Reader → Took
refused n used r = record { refusal = n; given = false; time = 0; used = used; reader = r }

-- The values of a moment in the lent buffer, each 0 or 1.
abbrev pub bits : List Bool → List ℕ
bits values = map bit values

-- The part is used up, and no moment is complete.
abbrev pub goes_on : Reader → ℕ → Took
goes_on r used = record { refusal = 0; given = false; time = 0; used = used; reader = r }

-- A moment is complete: its time, how much of the part is used, and the reader behind it.
abbrev pub gives_moment : ℕ → ℕ → Reader → Took
gives_moment time used after = record { refusal = 0; given = true; time = time; used = used; reader = after }

-- The part from a place on: up to the byte that begins the next moment, or to its end. 9: a byte that no dump has there.
unfoldable pub taken_from : Reader → Reader → ℕ → List ℕ → List ℕ → Took × List ℕ
taken_from start r used [] values = (goes_on r used, values)
taken_from start r used (b ∷ bytes) values =
    cond (is_bad (byte_of r b).place) (refused 9 used start, values)
    (cond (begins r b) (gives_moment r.time (suc used) (byte_of r b), bits r.values)
    (taken_from start (byte_of r b) (suc used) bytes values))

-- 8: the values' buffer is not 26 bytes. A refusal leaves the buffer as it was.
unfoldable pub take_of : Reader → List ℕ → List ℕ → Took × List ℕ
take_of r part values =
    cond (eqb (length values) wires) (taken_from r r 0 part values) (refused 8 0 r, values)

-- The end of the dump: the last moment. 9: it is not complete.
unfoldable pub finish_of : Reader → List ℕ → Took × List ℕ
finish_of r values =
    cond (eqb (length values) wires)
    (cond (complete r) (gives_moment r.time 0 r, bits r.values) (refused 9 0 r, values))
    (refused 8 0 r, values)
