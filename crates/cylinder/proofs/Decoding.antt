-- What the tests say by which a float is taken apart: below 0, over 16384, or with other bits than the float for its whole part it is none;
-- else it is so many parts.
-- Assumes nothing.
use Rattle.std.proofs.Common.{◌≡◌, ℕ, ◌≤◌, true, false, T, eqb, pos, sym, refl, ap, ◌∙◌, subst, true≢false, zero-le, arith, eqb-true}
use Rattle.std.specs.Prelude.{Option, None, Some}
use mathlib.Core.Bool.{false≢true}
use borrow.Author.Tests.{eqb-false}
use lib.Ieee.{Float, binary32, fits, mul, lt, le, to_unsigned, to_bits, of_bits, of_int}
use lib.Ieee.Bits.{of_bits-to_bits}
use Rattle.cylinder.specs.Fractions.{stroke, fraction, parts_from}
use Rattle.cylinder.proofs.Exact.{zero, scale, fraction_scaled, not_below, not_over, cut, cut_at_most}
use Rattle.cylinder.proofs.Taken.{fraction_fits, parts_from_fraction, taken_exactly}

none_unless : (o : Option ℕ) → ((n : ℕ) → o ≡ Some n → ⊥) → None ≡ o
none_unless None h = refl
none_unless (Some n) h = absurd (h n refl)

-- The whole part of what is scaled, where the tests pass.
pub whole_at_most : (x : Float) (k : ℕ) → k ≡ to_unsigned 64 (mul binary32 x scale)
    → lt (mul binary32 x scale) zero ≡ false → le (mul binary32 x scale) scale ≡ true → k ≤ stroke
whole_at_most x k whole low high = rw whole (cut_at_most (mul binary32 x scale) low high)

module _ (x : Float) (fit : fits binary32 x ≡ true) where
  fitting : T (fits binary32 x)
  fitting = subst T (sym fit) tt

  -- A float that is none of the fractions from 0 to 1.
  is_none : ((n : ℕ) → n ≤ stroke → x ≡ fraction n → ⊥) → None ≡ parts_from 0 stroke x
  is_none h =
      none_unless (parts_from 0 stroke x)
      (λ n e. let t = (taken_exactly 0 stroke n x (omega arith) fitting).0 e in h n t.2 t.0)

  -- Scaled, a fraction is its number of parts.
  fraction_times : (n : ℕ) → n ≤ stroke → x ≡ fraction n → mul binary32 x scale ≡ of_int binary32 (pos n)
  fraction_times n h e = ap (λ (y : Float). mul binary32 y scale) e ∙ fraction_scaled n (omega arith)

  pub below_is_none : lt (mul binary32 x scale) zero ≡ true → None ≡ parts_from 0 stroke x
  below_is_none l = is_none (λ n h e. true≢false (sym l ∙ ap (λ (y : Float). lt y zero) (fraction_times n h e) ∙ not_below n (omega arith)))

  pub over_is_none : le (mul binary32 x scale) scale ≡ false → None ≡ parts_from 0 stroke x
  over_is_none l = is_none (λ n h e. false≢true (sym l ∙ ap (λ (y : Float). le y scale) (fraction_times n h e) ∙ not_over n h))

  pub others_are_none : (y : Float) (k : ℕ) → k ≡ to_unsigned 64 (mul binary32 x scale) → y ≡ fraction k
      → eqb (to_bits binary32 x) (to_bits binary32 y) ≡ false → None ≡ parts_from 0 stroke x
  others_are_none y k whole made apart =
      is_none (λ n h e.
      let same : n ≡ k = sym (cut n (omega arith)) ∙ ap (to_unsigned 64) (sym (fraction_times n h e)) ∙ sym whole in
      eqb-false (to_bits binary32 x) (to_bits binary32 y) apart (ap (to_bits binary32) (e ∙ ap fraction same ∙ sym made)))

  pub same_is_some : (y : Float) (k : ℕ) → k ≤ stroke → y ≡ fraction k
      → eqb (to_bits binary32 x) (to_bits binary32 y) ≡ true → Some k ≡ parts_from 0 stroke x
  same_is_some y k h made same =
      let bits : to_bits binary32 x ≡ to_bits binary32 (fraction k) =
      eqb-true (to_bits binary32 x) (to_bits binary32 y) same ∙ ap (to_bits binary32) made in
      let is : x ≡ fraction k =
      sym (of_bits-to_bits binary32 x fitting) ∙ ap (of_bits binary32) bits ∙ of_bits-to_bits binary32 (fraction k) (fraction_fits k) in
      sym (ap (parts_from 0 stroke) is ∙ parts_from_fraction 0 stroke k (omega arith) zero-le h)
