-- Request K4: the sequence as a table. Request K7: of 1,024 entries. An entry is asked by ground, handle, doors, gears and the four facts
-- all open, all closed, all extended, all retracted, and it tells the next doors and gears.
-- Assumes nothing.
use Rattle.std.specs.Prelude.{ℕ, zero, suc, ◌+◌, ◌*◌, ◌/◌, ◌%◌, Bool, not, List, [], eqb, get_or}
use Rattle.common.specs.Bits.{bit, is_one}
use Rattle.common.specs.Lists.{given_from}
use Rattle.table.specs.declared.Asked.{Asked}
use Rattle.sequence.specs.declared.Aim.{Aim}
use Rattle.sequence.specs.declared.Place.{Place}
use Rattle.sequence.specs.declared.Seen.{Seen}
use Rattle.sequence.specs.Moves.{place, aim_of, move_on}
use Rattle.sequence.specs.Places.{moving_have_open}
use Rattle.sequence.specs.Numbers.{handle_number, doors_number, gears_number, doors_at, gears_at}

-- ---- The number of an entry

-- The facts all open, all closed, all extended, all retracted, the first most significant.
unfoldable pub facts_number : Seen → ℕ
facts_number seen = 8 * bit seen.opened + 4 * bit seen.closed + 2 * bit seen.extended + bit seen.retracted

-- Ground and handle, which are most significant.
unfoldable pub ground_and_handle : Bool → Aim → ℕ
ground_and_handle grounded aim = 512 * bit grounded + 256 * handle_number aim

-- Ground, handle, doors, gears, and the facts, the first most significant.
unfoldable pub number_of : Asked → ℕ
number_of a =
    ground_and_handle a.grounded a.aim +
    64 * doors_number a.place.doors +
    16 * gears_number a.place.gears +
    facts_number a.seen

-- There are so many entries.
abbrev pub entries : ℕ
entries = 1024

-- So many of them are in the air: those of request K4, with their numbers.
abbrev pub in_the_air : ℕ
in_the_air = 512

-- ---- What is asked at a number

-- What is seen.
unfoldable pub facts_at : ℕ → Seen
facts_at n =
    record {
      opened = is_one (n / 8 % 2);
      closed = is_one (n / 4 % 2);
      extended = is_one (n / 2 % 2);
      retracted = is_one (n % 2);
    }

-- Ground, handle, doors, gears, and what is seen.
unfoldable pub asked_at : ℕ → Asked
asked_at n =
    record {
      grounded = is_one (n / 512 % 2);
      aim = aim_of (is_one (n / 256 % 2));
      place = place (doors_at (n / 64 % 4)) (gears_at (n / 16 % 4));
      seen = facts_at n;
    }

-- ---- The table

-- What comes next, by the rule of document 01 with request K7.
unfoldable pub next_of : Asked → Place
next_of a = move_on a.grounded a.aim a.place a.seen

-- An entry holds doors and gears as one number.
unfoldable pub place_number : Place → ℕ
place_number p = 4 * doors_number p.doors + gears_number p.gears

-- The doors and gears that an entry holds.
unfoldable pub place_at : ℕ → Place
place_at n = place (doors_at (n / 4)) (gears_at (n % 4))

-- The entry that the rule gives at a number.
unfoldable pub ruled_at : ℕ → ℕ
ruled_at n = place_number (next_of (asked_at n))

-- All 1,024 entries, in 64 rows of sixteen: a row for each place of ground, handle, doors and gears.
unfoldable pub row_at : ℕ → List ℕ
row_at k = given_from ruled_at (16 * k) 16

unfoldable pub table : List (List ℕ)
table = given_from row_at 0 64

-- The entry of a number among rows of sixteen.
abbrev pub entry_of : List (List ℕ) → ℕ → ℕ
entry_of rows n = get_or (get_or rows (n / 16) []) (n % 16) 0

-- What the table tells at a number.
unfoldable pub entry_at : ℕ → Place
entry_at n = place_at (entry_of table n)

-- ---- What the ground changes

-- At a number on ground the entry is another than in the air.
unfoldable pub changed_by_ground : ℕ → Bool
changed_by_ground n = not (eqb (ruled_at n) (ruled_at (n % in_the_air)))

-- ---- Entries that can be asked

-- Gears move with doors OPEN only, so no reached state stands at any other place of moving gears.
unfoldable pub can_be_asked : ℕ → Bool
can_be_asked n = moving_have_open (asked_at n).place

-- How many numbers below this one pass a test.
unfoldable pub how_many : (ℕ → Bool) → ℕ → ℕ
how_many test zero = 0
how_many test (suc n) = bit (test n) + how_many test n
