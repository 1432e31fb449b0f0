-- Request K4: what is asked and its number, each gives the other; and the table is the rule, at each entry.
-- Assumes nothing.
use Prim.Native.Nat.{ℕ, zero, suc, ◌+◌, ◌*◌, ◌/◌, ◌%◌, ◌<◌, ◌≤◌}
use native.Mathlib.Omega.{arith}
use mathlib.Core.Bool.{Bool}
use mathlib.Core.List.{List, []}
use mathlib.Core.Path.{◌≡◌, refl, ap, ◌∙◌}
use lib.Dec.{lit≤}
use lib.ListN.{get_or}
use Rattle.common.specs.Bits.{bit}
use Rattle.common.proofs.Bits.{one_of_bit, bit_of_one, bit_to_1, byte_is_bit, byte_to_1}
use Rattle.common.proofs.Given.{given_at, given_at_0}
use Rattle.sequence.specs.declared.Aim.{Aim}
use Rattle.sequence.specs.declared.Aim.TheVariants.{ToRetracted, ToExtended}
use Rattle.table.specs.declared.Asked.{Asked}
use Rattle.sequence.specs.declared.Place.{Place}
use Rattle.sequence.specs.declared.Seen.{Seen}
use Rattle.sequence.specs.Moves.{aim_of}
use Rattle.sequence.specs.Numbers.{doors_number, gears_number}
use Rattle.table.specs.Table.{facts_number, ground_and_handle, number_of, entries, facts_at, asked_at, next_of, place_number, place_at, ruled_at, row_at, table, entry_at}
use Rattle.sequence.specs.Numbers.{handle_number}
use Rattle.common.specs.Bits.{is_one}
use Rattle.sequence.proofs.Numbering.{
  doors_to_3,
  gears_to_3,
  doors_at_number,
  gears_at_number,
  number_at_doors,
  number_at_gears,
}

-- ---- Each part of a number

pub handle_to_1 : (aim : Aim) → handle_number aim ≤ 1
handle_to_1 ToRetracted = lit≤ tt
handle_to_1 ToExtended = lit≤ tt

pub to_768 : (grounded : Bool) (aim : Aim) → ground_and_handle grounded aim ≤ 768
unfolding ground_and_handle
to_768 grounded aim = omega (arith, bit_to_1 grounded, handle_to_1 aim)

pub facts_to_15 : (seen : Seen) → facts_number seen ≤ 15
unfolding facts_number
facts_to_15 seen =
    omega (arith, bit_to_1 seen.opened, bit_to_1 seen.closed, bit_to_1 seen.extended, bit_to_1 seen.retracted)

handle_is : (aim : Aim) → aim_of (is_one (handle_number aim)) ≡ aim
handle_is ToRetracted = refl
handle_is ToExtended = refl

-- A number put together of eight parts.
abbrev together : ℕ → ℕ → ℕ → ℕ → ℕ → ℕ → ℕ → ℕ → ℕ
together t h d g o c e r = 512 * t + 256 * h + 64 * d + 16 * g + (8 * o + 4 * c + 2 * e + r)

-- It is taken apart again.
pub record Parts (t h d g o c e r : ℕ) : Type 0 where
  pub below : together t h d g o c e r < entries
  pub part_t : together t h d g o c e r / 512 % 2 ≡ t
  pub part_h : together t h d g o c e r / 256 % 2 ≡ h
  pub part_d : together t h d g o c e r / 64 % 4 ≡ d
  pub part_g : together t h d g o c e r / 16 % 4 ≡ g
  pub part_o : together t h d g o c e r / 8 % 2 ≡ o
  pub part_c : together t h d g o c e r / 4 % 2 ≡ c
  pub part_e : together t h d g o c e r / 2 % 2 ≡ e
  pub part_r : together t h d g o c e r % 2 ≡ r

parts : (t h d g o c e r : ℕ) → t ≤ 1 → h ≤ 1 → d ≤ 3 → g ≤ 3 → o ≤ 1 → c ≤ 1 → e ≤ 1 → r ≤ 1 → Parts t h d g o c e r
parts t h d g o c e r t1 h1 d3 g3 o1 c1 e1 r1 =
    record {
      below = omega (arith, t1, h1, d3, g3, o1, c1, e1, r1);
      part_t = omega (arith, t1, h1, d3, g3, o1, c1, e1, r1);
      part_h = omega (arith, t1, h1, d3, g3, o1, c1, e1, r1);
      part_d = omega (arith, t1, h1, d3, g3, o1, c1, e1, r1);
      part_g = omega (arith, t1, h1, d3, g3, o1, c1, e1, r1);
      part_o = omega (arith, t1, h1, d3, g3, o1, c1, e1, r1);
      part_c = omega (arith, t1, h1, d3, g3, o1, c1, e1, r1);
      part_e = omega (arith, t1, h1, d3, g3, o1, c1, e1, r1);
      part_r = omega (arith, t1, h1, d3, g3, o1, c1, e1, r1);
    }

-- ---- What is asked, and its number

-- The parts of the number of what is asked.
parts_of : (a : Asked)
    → Parts (bit a.grounded) (handle_number a.aim) (doors_number a.place.doors) (gears_number a.place.gears)
    (bit a.seen.opened) (bit a.seen.closed) (bit a.seen.extended) (bit a.seen.retracted)
parts_of a =
    parts _ _ _ _ _ _ _ _
    (bit_to_1 a.grounded) (handle_to_1 a.aim) (doors_to_3 a.place.doors) (gears_to_3 a.place.gears)
    (bit_to_1 a.seen.opened) (bit_to_1 a.seen.closed) (bit_to_1 a.seen.extended) (bit_to_1 a.seen.retracted)

-- No number is past the table.
pub number_below : (a : Asked) → number_of a < entries
unfolding number_of ground_and_handle facts_number
number_below a = (parts_of a).below

-- A number tells what is asked ..
pub asked_at_number : (a : Asked) → asked_at (number_of a) ≡ a
unfolding number_of ground_and_handle facts_number asked_at facts_at
asked_at_number a =
    let p = parts_of a in
    simp (
      p.part_t,
      p.part_h,
      p.part_d,
      p.part_g,
      p.part_o,
      p.part_c,
      p.part_e,
      p.part_r,
      one_of_bit a.grounded,
      handle_is a.aim,
      doors_at_number a.place.doors,
      gears_at_number a.place.gears,
      one_of_bit a.seen.opened,
      one_of_bit a.seen.closed,
      one_of_bit a.seen.extended,
      one_of_bit a.seen.retracted,
    )

-- .. and what is asked its number.
handle_of_one : (n : ℕ) → n ≤ 1 → handle_number (aim_of (is_one n)) ≡ n
handle_of_one zero h = refl
handle_of_one (suc zero) h = refl
handle_of_one (suc (suc n)) h = absurd (omega arith)

-- A number by its parts, the last taken off first.
whole : (n n2 n4 n8 n16 n64 n256 t h d g o c e r : ℕ)
    → n ≡ 2 * n2 + r → n2 ≡ 2 * n4 + e → n4 ≡ 2 * n8 + c → n8 ≡ 2 * n16 + o → n16 ≡ 4 * n64 + g → n64 ≡ 4 * n256 + d → n256 ≡ 2 * t + h
    → together t h d g o c e r ≡ n
whole n n2 n4 n8 n16 n64 n256 t h d g o c e r er ee ec eo eg ed eh = omega (arith, er, ee, ec, eo, eg, ed, eh)

pub number_at_asked : (n : ℕ) → n < entries → number_of (asked_at n) ≡ n
unfolding number_of ground_and_handle facts_number asked_at facts_at
number_at_asked n h =
    simp (
      bit_of_one (n / 512 % 2) (omega arith),
      handle_of_one (n / 256 % 2) (omega arith),
      number_at_doors (n / 64 % 4) (omega arith),
      number_at_gears (n / 16 % 4) (omega arith),
      bit_of_one (n / 8 % 2) (omega arith),
      bit_of_one (n / 4 % 2) (omega arith),
      bit_of_one (n / 2 % 2) (omega arith),
      bit_of_one (n % 2) (omega arith),
    )
    (whole n (n / 2) (n / 4) (n / 8) (n / 16) (n / 64) (n / 256) _ _ _ _ _ _ _ _
    (omega arith)
    (omega arith)
    (omega arith)
    (omega arith)
    (omega arith)
    (omega arith)
    (omega (arith, h)))

-- ---- Doors and gears as one number

pub place_at_number : (p : Place) → place_at (place_number p) ≡ p
unfolding place_at place_number
place_at_number p =
    let d3 = doors_to_3 p.doors in
    let g3 = gears_to_3 p.gears in
    let doors : (4 * doors_number p.doors + gears_number p.gears) / 4 ≡ doors_number p.doors = omega (arith, g3) in
    let gears : (4 * doors_number p.doors + gears_number p.gears) % 4 ≡ gears_number p.gears = omega (arith, g3) in
    simp (doors, gears, doors_at_number p.doors, gears_at_number p.gears)

-- ---- The table is the rule

-- At each number the table tells what comes next of what is asked there.
pub table_is_rule : (n : ℕ) → n < entries → entry_at n ≡ next_of (asked_at n)
unfolding entry_at table row_at ruled_at
table_is_rule n h =
    let back : 16 * (n / 16) + n % 16 ≡ n = omega arith in
    ap place_at
    (ap (λ (row : List ℕ). get_or row (n % 16) 0) (given_at_0 row_at [] 64 (n / 16) (omega (arith, h)))
    ∙ given_at ruled_at 0 (16 * (n / 16)) 16 (n % 16) (omega arith)
    ∙ ap ruled_at back)
    ∙ place_at_number (next_of (asked_at n))

-- So it tells what comes next of whatever is asked.
pub table_tells : (a : Asked) → entry_at (number_of a) ≡ next_of a
table_tells a = table_is_rule (number_of a) (number_below a) ∙ ap next_of (asked_at_number a)

-- ---- What the functions' proofs use: facts and handle as bits, how large the parts of a number are, and what is looked up

pub ruleset as_bits = (byte_to_1, byte_is_bit, handle_to_1)

pub ruleset parts_below = (to_768, facts_to_15, doors_to_3, gears_to_3)

pub ruleset looked_up = (number_below, table_tells)
