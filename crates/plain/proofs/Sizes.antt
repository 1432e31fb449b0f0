-- How long the lines are at most.
-- Assumes nothing.
use Prim.Native.Nat.{ℕ, zero, suc, ◌+◌, ◌*◌, ◌/◌, ◌%◌, ◌≤◌}
use native.Mathlib.Omega.{arith}
use mathlib.Core.Bool.{Bool, true, false, cond}
use mathlib.Core.List.{List, [], ◌∷◌, ◌++◌}
use mathlib.Core.Path.{◌≡◌}
use lib.Dec.{eqb, ltb, lit≤}
use lib.ListN.{length, length-append}
use Rattle.common.specs.Ascii.{ascii}
use Rattle.common.specs.Decimal.{decimal, decimal_up_to, digit0}
use Rattle.voter.specs.declared.Voter.{Voter}
use Rattle.voter.specs.Numbers.{number_of}
use Rattle.orders.specs.declared.Order.{Order}
use Rattle.orders.specs.declared.Orders.{Orders}
use Rattle.controller.specs.declared.Core.{Core}
use Rattle.controller.specs.declared.State.{State}
use Rattle.names.specs.Words.{entry, sensor_names, general_name, closes_name, opens_name, retracts_name, extends_name, cause_words}
use Rattle.names.proofs.Lengths.{sensor_length, voter_length, cause_length, doors_length, gears_length}
use Rattle.plain.specs.Plain.{line, in_samples, of_odd, of_count, of_held, in_ms, on_or_off, of_sensor, of_order, of_cause, sensor_lines, order_lines, place_lines, rest_lines, plain_of}

-- ---- What is said

up_to : (digits n : ℕ) → length (decimal_up_to digits n) ≤ digits
unfolding decimal_up_to
up_to zero n = omega arith
up_to (suc digits) n = by_size (ltb n 10) (decimal_up_to digits (n / 10)) (digit0 + n) (digit0 + n % 10) (up_to digits (n / 10)) where
  by_size : (t : Bool) (tenth : List ℕ) (d e : ℕ) → length tenth ≤ digits → length (cond t (d ∷ []) (tenth ++ e ∷ [])) ≤ suc digits
  by_size true tenth d e h = omega arith
  by_size false tenth d e h = omega (arith, length-append tenth (e ∷ []))

pub number_length : (n : ℕ) → length (decimal n) ≤ 20
unfolding decimal
number_length n = up_to 20 n

on_length : (on : Bool) → length (on_or_off on) ≤ 3
on_length true = omega arith
on_length false = omega arith

said_of_cause : (cause : ℕ) → length (of_cause cause) ≤ 68
unfolding of_cause
said_of_cause cause = by_test (ltb cause (length cause_words)) where
  by_test : (t : Bool) → length (cond t (entry cause_words cause) (decimal cause)) ≤ 68
  by_test true = cause_length cause
  by_test false = omega (arith, number_length cause)

-- ---- The lines

line_length : (name said : List ℕ) → length (line name said) ≡ length name + length said + 3
unfolding line
line_length name said = simp length-append (omega arith)

ms_length : (ms : ℕ) → length (in_ms ms) ≤ 23
unfolding in_ms
ms_length ms = omega (arith, length-append (decimal ms) (ascii " ms"), number_length ms)

samples_length : (n : ℕ) → length (in_samples n) ≤ 28
unfolding in_samples
samples_length n = by_test (eqb n 1) where
  by_test : (t : Bool) → length (decimal n ++ cond t (ascii " sample") (ascii " samples")) ≤ 28
  by_test true = omega (arith, number_length n, length-append (decimal n) (ascii " sample"))
  by_test false = omega (arith, number_length n, length-append (decimal n) (ascii " samples"))

count_length : (odd count : ℕ) → length (of_count odd count) ≤ 66
unfolding of_odd of_count
count_length odd count = by_tests (eqb odd 0) (eqb count 0) where
  by_tests : (no_odd none : Bool)
      → length (cond no_odd (cond none [] (ascii ", the two differed in " ++ in_samples count)) (ascii ", channel " ++ decimal odd ++ ascii " odd in " ++ in_samples count)) ≤ 66
  by_tests true true = omega arith
  by_tests true false = simp length-append (omega (arith, samples_length count))
  by_tests false none = simp length-append (omega (arith, number_length odd, samples_length count))

sensor_line : (k : ℕ) (v : Voter) → length (line (entry sensor_names k) (of_sensor v)) ≤ 120
unfolding of_held of_sensor
sensor_line k v =
    rw (line_length (entry sensor_names k) (of_sensor v))
    (simp length-append (omega (arith, sensor_length k, voter_length (number_of v), count_length v.odd v.count)))

sensors_length : (k : ℕ) (vs : List Voter) → length (sensor_lines k vs) ≤ 120 * length vs
unfolding sensor_lines
sensors_length k [] = omega arith
sensors_length k (v ∷ vs) =
    omega (
      arith,
      length-append (line (entry sensor_names k) (of_sensor v)) (sensor_lines (suc k) vs),
      sensor_line k v,
      sensors_length (suc k) vs,
    )

order_line : (name : List ℕ) (o : Order) → length name ≤ 10 → length (line name (of_order o)) ≤ 45
unfolding of_order
order_line name o short =
    rw (line_length name (of_order o)) (simp length-append (omega (arith, short, on_length o.on, ms_length o.age)))

orders_length : (os : Orders) → length (order_lines os) ≤ 225
unfolding order_lines
orders_length os =
    simp length-append
    (omega (
      arith,
      order_line general_name os.general (lit≤ tt),
      order_line closes_name os.closes (lit≤ tt),
      order_line opens_name os.opens (lit≤ tt),
      order_line retracts_name os.retracts (lit≤ tt),
      order_line extends_name os.extends (lit≤ tt),
    ))

rest_length : (c : Core) → length (rest_lines c) ≤ 145
unfolding rest_lines place_lines
rest_length c =
    simp (length-append, line_length)
    (omega (
      arith,
      ms_length c.since,
      doors_length c.place.doors,
      gears_length c.place.gears,
      said_of_cause c.cause,
    ))

-- All lines of 18 sensors.
pub all_length : (s : State) → length s.voters ≡ 18 → length (plain_of s) ≤ 2563
unfolding plain_of
all_length s sensors =
    simp (length-append, line_length)
    (omega (
      arith,
      sensors,
      number_length s.stamp,
      sensors_length 0 s.voters,
      orders_length s.core.orders,
      rest_length s.core,
    ))
