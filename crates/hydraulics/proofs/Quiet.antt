-- What the monitors see of the simulated rig, and that none of them finds a cause. Where the cylinders stand as far as the orders have moved them,
-- a door order that is on for 7,000 ms has brought every door to its end, and a gear order has taken every gear from its other end in 7,000 ms and
-- to its end in 10,000; pressure and switch are as the monitors ask.
-- Assumes nothing.
use Prim.Native.Nat.{ℕ, suc, ◌*◌, ◌≤◌}
use native.Mathlib.Nat.{le_trans, mul-le-mul_right}
use native.Mathlib.Omega.{arith}
use mathlib.Core.Bool.{Bool, true, false, not, ◌&&◌, ◌||◌}
use mathlib.Core.List.{List, [], ◌∷◌, map}
use mathlib.Core.Path.{◌≡◌, refl, ◌∙◌, ap}
use lib.Dec.{T, leb, leb→le, lit≤}
use borrow.Author.Tests.{eq-eqb, ne_eqb, lt-ltb, le-ltb}
use mir.Facts.{and_yes}
use Rattle.common.specs.Bits.{bit}
use Rattle.common.specs.Lists.{some, Each}
use Rattle.common.specs.Lowest.{lowest}
use Rattle.voter.specs.Voting.{fresh_with, value_of, is_invalid}
use Rattle.orders.specs.declared.Order.{Order}
use Rattle.orders.specs.declared.Orders.{Orders}
use Rattle.orders.specs.Timing.{on_for, off_for}
use Rattle.monitors.specs.declared.Sight.{Sight}
use Rattle.monitors.specs.Causes.{causes, cause_of}
use Rattle.controller.specs.Votes.{sensor, three_from, some_invalid, sight_of}
use Rattle.cylinder.specs.declared.Cylinder.{Cylinder}
use Rattle.cylinder.specs.Fractions.{stroke}
use Rattle.joined.specs.Sensors.{stands_at, is_closed, seen_out, seen_in, sensors_of}
use Rattle.hydraulics.specs.Law.{slowest_doors, slowest_gears, StandsBy}
use Rattle.hydraulics.proofs.Moving.{seen_at, arrived_out, arrived_in, left_in, left_out}

-- ---- Tests that fail

fails : (test then : Bool) → (T test → then ≡ false) → (test && then) ≡ false
fails true then h = h tt
fails false then h = refl

none_of_three : (x y z : Bool) → x ≡ false → y ≡ false → z ≡ false → (x || y || z) ≡ false
none_of_three x y z p q r = rw (p, q, r) refl

not_but_all : (x y z : Bool) → x ≡ true → y ≡ true → z ≡ true → not (x && y && z) ≡ false
not_but_all x y z p q r = rw (p, q, r) refl

none_holds : (n : ℕ) (ts : List Bool) → Each (λ (t : Bool). t ≡ false) ts → lowest n ts ≡ 0
none_holds n [] each = refl
none_holds n (t ∷ ts) each = rw each.0 (none_holds (suc n) ts each.1)

-- ---- One cylinder, by how long its order has been on

module _ (least ms : ℕ) (o i : Order) (c : Cylinder) (s : StandsBy least o i c) where
  is_out : stroke ≤ least * ms → T (on_for ms o) → stands_at stroke c ≡ true
  is_out enough late = seen_at stroke least o i c s ∙ eq-eqb _ _ (arrived_out least ms o i c s enough late)

  is_in : stroke ≤ least * ms → T (on_for ms i) → stands_at 0 c ≡ true
  is_in enough late = seen_at 0 least o i c s ∙ eq-eqb _ _ (arrived_in least ms o i c s enough late)

  is_not_in : 1 ≤ least * ms → T (on_for ms o) → stands_at 0 c ≡ false
  is_not_in way late =
      seen_at 0 least o i c s ∙ ne_eqb s.position 0 (λ e. omega (arith, e, left_in least ms o i c s way late))

  is_not_out : 1 ≤ least * ms → T (on_for ms i) → stands_at stroke c ≡ false
  is_not_out way late =
      seen_at stroke least o i c s ∙ ne_eqb s.position stroke (λ e. omega (arith, e, left_out least ms o i c s way late))

-- So many parts a ms are enough in so many ms.
enough : (slowest least ms : ℕ) → slowest ≤ least → stroke ≤ slowest * ms → stroke ≤ least * ms
enough slowest least ms fast h = le_trans h (mul-le-mul_right ms fast)

some_way : (slowest least ms : ℕ) → slowest ≤ least → 1 ≤ slowest * ms → 1 ≤ least * ms
some_way slowest least ms fast h = le_trans h (mul-le-mul_right ms fast)

-- ---- Three cylinders with the same orders

module _ (slowest least : ℕ) (fast : slowest ≤ least) (o i : Order) (a b c : Cylinder)
    (sa : StandsBy least o i a) (sb : StandsBy least o i b) (sc : StandsBy least o i c) (ms : ℕ) where
  pub none_in : 1 ≤ slowest * ms → (on_for ms o && (stands_at 0 a || stands_at 0 b || stands_at 0 c)) ≡ false
  none_in h =
      fails (on_for ms o) _ (λ late.
      let way = some_way slowest least ms fast h in
      none_of_three _ _ _ (is_not_in least ms o i a sa way late) (is_not_in least ms o i b sb way late) (is_not_in least ms o i c sc way late))

  pub all_out : stroke ≤ slowest * ms → (on_for ms o && not (stands_at stroke a && stands_at stroke b && stands_at stroke c)) ≡ false
  all_out h =
      fails (on_for ms o) _ (λ late.
      let way = enough slowest least ms fast h in
      not_but_all _ _ _ (is_out least ms o i a sa way late) (is_out least ms o i b sb way late) (is_out least ms o i c sc way late))

  pub none_out : 1 ≤ slowest * ms → (on_for ms i && (stands_at stroke a || stands_at stroke b || stands_at stroke c)) ≡ false
  none_out h =
      fails (on_for ms i) _ (λ late.
      let way = some_way slowest least ms fast h in
      none_of_three _ _ _ (is_not_out least ms o i a sa way late) (is_not_out least ms o i b sb way late) (is_not_out least ms o i c sc way late))

  pub all_in : stroke ≤ slowest * ms → (on_for ms i && not (stands_at 0 a && stands_at 0 b && stands_at 0 c)) ≡ false
  all_in h =
      fails (on_for ms i) _ (λ late.
      let way = enough slowest least ms fast h in
      not_but_all _ _ _ (is_in least ms o i a sa way late) (is_in least ms o i b sb way late) (is_in least ms o i c sc way late))

-- ---- Pressure and switch

-- The pressure is general_EV as it stood before the step, which is what the monitors look at.
pressed : (ms : ℕ) (o : Order) → (on_for ms o && not o.on) ≡ false
unfolding on_for
pressed ms o = by o.on (leb ms o.age)
  where
    by : (on old : Bool) → (on && old && not on) ≡ false
    by true true = refl
    by true false = refl
    by false old = refl

unpressed : (ms : ℕ) (o : Order) → (off_for ms o && o.on) ≡ false
unfolding off_for
unpressed ms o = by o.on (leb ms o.age)
  where
    by : (on old : Bool) → (not on && old && on) ≡ false
    by true old = refl
    by false true = refl
    by false false = refl

-- The switch is closed for 20,000 ms from a move of the handle, which has the handle's age.
closed_long_enough : (since : ℕ) → (leb 1000 since && leb since 19999 && not (is_closed since)) ≡ false
closed_long_enough since =
    fails (leb 1000 since && leb since 19999) _ (λ h.
    let young = leb→le since 19999 (and_yes (leb 1000 since) _ h).1 in
    ap not (lt-ltb since 20000 (omega arith)))

open_soon_enough : (since : ℕ) → (leb 21500 since && is_closed since) ≡ false
open_soon_enough since =
    fails (leb 21500 since) _ (λ h. let old = leb→le 21500 since h in le-ltb since 20000 (omega arith))

-- ---- All of them

-- The eighteen sensors as truth values, by the six cylinders (doors front, left, right, gears front, left, right).
abbrev pub values : Bool → ℕ → Bool → Cylinder → Cylinder → Cylinder → Cylinder → Cylinder → Cylinder → List Bool
values down since pressure a b c d e f =
    down ∷ is_closed since ∷
    stands_at stroke d ∷ stands_at stroke e ∷ stands_at stroke f ∷
    stands_at 0 d ∷ stands_at 0 e ∷ stands_at 0 f ∷
    false ∷ false ∷ false ∷
    stands_at 0 a ∷ stands_at 0 b ∷ stands_at 0 c ∷
    stands_at stroke a ∷ stands_at stroke b ∷ stands_at stroke c ∷
    pressure ∷
    []

pub sensors_are : (down : Bool) (since : ℕ) (pressure : Bool) (a b c d e f : Cylinder)
    → sensors_of down since pressure (a ∷ b ∷ c ∷ d ∷ e ∷ f ∷ []) ≡ map bit (values down since pressure a b c d e f)
unfolding sensors_of seen_out seen_in
sensors_are down since pressure a b c d e f = refl

-- What the monitors see of them.
abbrev pub seeing : Bool → ℕ → Bool → Cylinder → Cylinder → Cylinder → Cylinder → Cylinder → Cylinder → Sight
seeing down since pressure a b c d e f = sight_of (map fresh_with (values down since pressure a b c d e f))

module _ (doors gears : ℕ) (fast_doors : slowest_doors ≤ doors) (fast_gears : slowest_gears ≤ gears) (os : Orders) (a b c d e f : Cylinder)
    (sa : StandsBy doors os.opens os.closes a) (sb : StandsBy doors os.opens os.closes b) (sc : StandsBy doors os.opens os.closes c)
    (sd : StandsBy gears os.extends os.retracts d) (se : StandsBy gears os.extends os.retracts e) (sf : StandsBy gears os.extends os.retracts f) where
  pub no_cause : (down : Bool) (since : ℕ) → cause_of os since (seeing down since os.general.on a b c d e f) ≡ 0
  unfolding cause_of causes sight_of three_from sensor value_of fresh_with some_invalid some is_invalid
  no_cause down since =
      let of_doors = slowest_doors in
      let of_gears = slowest_gears in
      none_holds 1 (causes os since (seeing down since os.general.on a b c d e f)) (
        none_in of_doors doors fast_doors os.opens os.closes a b c sa sb sc 7000 (lit≤ tt),
        (
          all_out of_doors doors fast_doors os.opens os.closes a b c sa sb sc 7000 (lit≤ tt),
          (
            none_out of_doors doors fast_doors os.opens os.closes a b c sa sb sc 7000 (lit≤ tt),
            (
              all_in of_doors doors fast_doors os.opens os.closes a b c sa sb sc 7000 (lit≤ tt),
              (
                none_out of_gears gears fast_gears os.extends os.retracts d e f sd se sf 7000 (lit≤ tt),
                (
                  all_in of_gears gears fast_gears os.extends os.retracts d e f sd se sf 10000 (lit≤ tt),
                  (
                    none_in of_gears gears fast_gears os.extends os.retracts d e f sd se sf 7000 (lit≤ tt),
                    (
                      all_out of_gears gears fast_gears os.extends os.retracts d e f sd se sf 10000 (lit≤ tt),
                      (
                        pressed 2000 os.general,
                        (
                          unpressed 10000 os.general,
                          (
                            closed_long_enough since,
                            (
                              open_soon_enough since,
                              (
                                refl,
                                tt,
                              ),
                            ),
                          ),
                        ),
                      ),
                    ),
                  ),
                ),
              ),
            ),
          ),
        ),
      )
