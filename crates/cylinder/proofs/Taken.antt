-- Which floats are taken: exactly those that are a whole number of parts in their range.
-- Assumes nothing.
use Rattle.std.proofs.Common.{◌≡◌, ℕ, ◌*◌, ◌/◌, ◌%◌, ◌<◌, ◌≤◌, Bool, true, false, cond, ◌&&◌, T, eqb, leb, ◌↔◌, sym, refl, ap, ◌∙◌, zero-le, div-add-mod', mul-div_cancel, arith, eqb→eq, leb→le, eq-eqb, le-leb}
use Rattle.std.specs.Prelude.{Option, None, Some, is_some, Result, Ok}
use Rattle.std.specs.Result.{result_ok}
use Rattle.refusals.specs.declared.Refusal.{Refusal}
use native.Mathlib.Nat.{mul-mod_left}
use lib.Dec.{leb-zero, nleb→lt}
use borrow.Author.Tests.{lt-leb}
use lib.Ieee.{Float, nan, inf, fin, binary32, up, down, fits}
use lib.Ieee.Fits.{down_pos, round-fits}
use Rattle.common.proofs.Tests.{by_cases}
use Rattle.cylinder.specs.Fractions.{stroke, fraction, EqualsParts, plus_parts, parts_of, within, parts_from}
use Rattle.cylinder.specs.Moves.{fastest, position_parts, rate_parts, shown_parts, is_position, is_rate}
use Rattle.cylinder.proofs.OneWay.{one_float}
use Rattle.cylinder.proofs.Exact.{fraction_exact}

-- ---- So many parts, exactly

pub none_is_not_some : {A : Type 0} {n : ℕ} → None ≡ Some n → A
none_is_not_some h = absurd (cc)

pub parts_of_equal : (x : Float) (n : ℕ) → EqualsParts x n → parts_of x ≡ Some n
unfolding parts_of
parts_of_equal nan n v = absurd v
parts_of_equal (inf s) n v = absurd v
parts_of_equal (fin s m e) n v =
    ap (λ (b : Bool). plus_parts b (m * up e * stroke) (down e)) v.0
    ∙ ap (λ (a : ℕ). plus_parts false a (down e)) v.1
    ∙ simp (eq-eqb _ _ (mul-mod_left n (down e)), mul-div_cancel n (down_pos e))

no_rest : (over under n : ℕ) → plus_parts false over under ≡ Some n → over ≡ n * under
no_rest over under n h = by (eqb (over % under) 0) (eqb→eq (over % under) 0) h
  where
    by : (b : Bool) → (T b → over % under ≡ 0) → cond b (Some (over / under)) None ≡ Some n → over ≡ n * under
    by true whole k =
        let q : over / under ≡ n = cc in
        rw (← q) (omega (arith, whole tt, div-add-mod' over under))
    by false whole k = none_is_not_some k

pub equal_of_parts : (x : Float) (n : ℕ) → parts_of x ≡ Some n → EqualsParts x n
unfolding parts_of
equal_of_parts nan n h = none_is_not_some h
equal_of_parts (inf s) n h = none_is_not_some h
equal_of_parts (fin true m e) n h = none_is_not_some h
equal_of_parts (fin false m e) n h = (refl, no_rest (m * up e * stroke) (down e) n h)

pub fraction_fits : (n : ℕ) → T (fits binary32 (fraction n))
unfolding fraction
fraction_fits n = round-fits binary32 false n stroke

-- A 32-bit float that equals so many parts is the float for them.
pub the_fraction : (x : Float) (n : ℕ) → T (fits binary32 x) → n < 65536 → EqualsParts x n → x ≡ fraction n
the_fraction x n fit h v = one_float x (fraction n) n fit (fraction_fits n) v (fraction_exact n h)

-- The float for so many parts is so many.
pub parts_of_fraction : (n : ℕ) → n < 65536 → parts_of (fraction n) ≡ Some n
parts_of_fraction n h = parts_of_equal (fraction n) n (fraction_exact n h)

-- ---- From so many to so many

within_takes : (least most n : ℕ) → least ≤ n → n ≤ most → within least most (Some n) ≡ Some n
within_takes least most n l m = simp (le-leb _ _ l, le-leb _ _ m)

within_gives : (least most n : ℕ) (o : Option ℕ) → within least most o ≡ Some n → (o ≡ Some n) × (least ≤ n) × (n ≤ most)
within_gives least most n None h = none_is_not_some h
within_gives least most n (Some k) h = by (leb least k) (leb k most) (leb→le least k) (leb→le k most) h
  where
    by : (a b : Bool) → (T a → least ≤ k) → (T b → k ≤ most) → cond (a && b) (Some k) None ≡ Some n
        → (Some k ≡ Some n) × (least ≤ n) × (n ≤ most)
    by true true low high e = let same : k ≡ n = cc in (e, rw (← same) (low tt), rw (← same) (high tt))
    by true false low high e = none_is_not_some e
    by false b low high e = none_is_not_some e

pub taken_at_most : (least most n : ℕ) (x : Float) → parts_from least most x ≡ Some n → n ≤ most
unfolding parts_from
taken_at_most least most n x h = (within_gives least most n (parts_of x) h).2

-- The same of a result that is refused where there are none.
pub result_at_most : (least most : ℕ) (x : Float) {n : ℕ} {o : Option ℕ} {r : Result ℕ Refusal}
    → o ≡ parts_from least most x → o ≡ result_ok r → r ≡ Ok n → n ≤ most
result_at_most least most x from ok is = taken_at_most least most _ x (sym from ∙ ok ∙ ap result_ok is)

-- A narrower range within the positions'.
pub narrowed : (least most : ℕ) (x : Float) → most ≤ stroke → within least most (parts_from 0 stroke x) ≡ parts_from least most x
unfolding parts_from
narrowed least most x h = by (parts_of x)
  where
    over : (n : ℕ) → stroke < n → (t : Bool) → None ≡ cond (t && leb n most) (Some n) None
    over n m true = simp (lt-leb n most (omega arith))
    over n m false = refl

    by : (o : Option ℕ) → within least most (within 0 stroke o) ≡ within least most o
    by None = refl
    by (Some n) =
        rw (leb-zero n)
        (by_cases (leb n stroke) (λ (low : Bool). within least most (cond low (Some n) None) ≡ within least most (Some n))
        (λ t. refl) (λ t. over n (nleb→lt n stroke t) (leb least n)))

pub parts_from_fraction : (least most n : ℕ) → n < 65536 → least ≤ n → n ≤ most → parts_from least most (fraction n) ≡ Some n
unfolding parts_from
parts_from_fraction least most n h l m = ap (within least most) (parts_of_fraction n h) ∙ within_takes least most n l m

-- "A rate or position that is none of those": a 32-bit float is taken as n parts exactly if it is the float for n, and n is in its range.
pub taken_exactly : (least most n : ℕ) (x : Float) → most < 65536 → T (fits binary32 x)
    → (parts_from least most x ≡ Some n) ↔ ((x ≡ fraction n) × (least ≤ n) × (n ≤ most))
unfolding parts_from
taken_exactly least most n x h fit = (taken, λ f. rw f.0 (parts_from_fraction least most n (omega (arith, f.2)) f.1 f.2))
  where
    taken : within least most (parts_of x) ≡ Some n → (x ≡ fraction n) × (least ≤ n) × (n ≤ most)
    taken e =
        let w = within_gives least most n (parts_of x) e in
        (the_fraction x n fit (omega (arith, w.2)) (equal_of_parts x n w.0), w.1, w.2)

-- ---- As a position, as a rate, as the rate that is shown

pub position_of_fraction : (k : ℕ) → k ≤ stroke → position_parts (fraction k) ≡ Some k
position_of_fraction k h = parts_from_fraction 0 stroke k (omega arith) zero-le h

pub rate_of_fraction : (n : ℕ) → 1 ≤ n → n ≤ fastest → rate_parts (fraction n) ≡ Some n
rate_of_fraction n l h = parts_from_fraction 1 fastest n (omega arith) l h

pub shown_of_fraction : (n : ℕ) → n ≤ fastest → shown_parts (fraction n) ≡ Some n
shown_of_fraction n h = parts_from_fraction 0 fastest n (omega arith) zero-le h

-- In numbers, of every float: it is taken as n parts exactly if it equals n/16384, and n is in the range.
pub equals_exactly : (least most n : ℕ) (x : Float) → (parts_from least most x ≡ Some n) ↔ (EqualsParts x n × (least ≤ n) × (n ≤ most))
unfolding parts_from
equals_exactly least most n x = (
  λ e. let w = within_gives least most n (parts_of x) e in (equal_of_parts x n w.0, w.1, w.2),
  λ v. ap (within least most) (parts_of_equal x n v.0) ∙ within_takes least most n v.1 v.2,
)

some_exactly : (o : Option ℕ) → T (is_some o) ↔ ((n : ℕ) × (o ≡ Some n))
some_exactly None = (λ t. absurd t, λ s. none_is_not_some s.1)
some_exactly (Some n) = (λ t. (n, refl), λ s. tt)

-- "Positions are whole 16384ths from 0 to 1": exactly these floats are positions, ..
pub position_exactly : (x : Float) → T (is_position x) ↔ ((k : ℕ) × EqualsParts x k × (k ≤ stroke))
unfolding is_position
position_exactly x = (is, λ v. (some_exactly (position_parts x)).1 (v.0, (equals_exactly 0 stroke v.0 x).1 (v.1, zero-le, v.2)))
  where
    is : T (is_position x) → (k : ℕ) × EqualsParts x k × (k ≤ stroke)
    is t =
        let s = (some_exactly (position_parts x)).0 t in
        let v = (equals_exactly 0 stroke s.0 x).0 s.1 in
        (s.0, v.0, v.2)

-- .. and "rates are n/16384 of a stroke per ms, n from 1 to 16": exactly these are rates.
pub rate_exactly : (x : Float) → T (is_rate x) ↔ ((n : ℕ) × EqualsParts x n × (1 ≤ n) × (n ≤ fastest))
unfolding is_rate
rate_exactly x = (is, λ v. (some_exactly (rate_parts x)).1 (v.0, (equals_exactly 1 fastest v.0 x).1 (v.1, v.2, v.3)))
  where
    is : T (is_rate x) → (n : ℕ) × EqualsParts x n × (1 ≤ n) × (n ≤ fastest)
    is t =
        let s = (some_exactly (rate_parts x)).0 t in
        let v = (equals_exactly 1 fastest s.0 x).0 s.1 in
        (s.0, v.0, v.1, v.2)
