-- A 32-bit float is written in one way: two that equal the same number of parts, with the same sign, are one.
-- Assumes nothing.
use Rattle.std.proofs.Common.{◌≡◌, ℕ, zero, suc, ◌+◌, ◌*◌, ◌%◌, ◌^◌, ◌<◌, Bool, ◌&&◌, T, eqb, ltb, leb, ◌⊎◌, ℤ, pos, negsuc, sym, refl, ap, ◌∙◌, inl, inr, zero-lt-suc, mul_assoc, mul-pos, one-mul, pow-suc, zero-mul, mul-one, mul_right_comm, arith, lit<, eqb→eq, pow-add}
use native.Mathlib.Nat.{eq_of_mul-eq-mul_right}
use lib.Ieee.{Float, nan, inf, fin, binary32, prec, emax, low, up, down, fits}
use lib.Ieee.Fits.{up_pos, down_pos, and_l}
use Rattle.cylinder.specs.Fractions.{stroke, EqualsParts}

-- ---- An odd number times a power of two

twice : (m a : ℕ) → m * 2 ^ suc a ≡ m * 2 ^ a * 2
twice m a = ap (λ (p : ℕ). m * p) (pow-suc 2 a) ∙ sym (mul_assoc m (2 ^ a) 2)

odd_pow : (m n a b : ℕ) → m % 2 ≡ 1 → n % 2 ≡ 1 → m * 2 ^ a ≡ n * 2 ^ b → (m ≡ n) × (a ≡ b)
odd_pow m n zero zero o p h = (sym (mul-one m) ∙ h ∙ mul-one n, refl)
odd_pow m n zero (suc b) o p h = absurd (omega (arith, twice n b, mul-one m))
odd_pow m n (suc a) zero o p h = absurd (omega (arith, twice m a, mul-one n))
odd_pow m n (suc a) (suc b) o p h =
    let r = odd_pow m n a b o p (omega (arith, twice m a, twice n b)) in
    (r.0, ap suc r.1)

times : (m a b : ℕ) → m * 2 ^ (a + b) ≡ m * 2 ^ a * 2 ^ b
times m a b = ap (λ (p : ℕ). m * p) (pow-add 2 a b) ∙ sym (mul_assoc m (2 ^ a) (2 ^ b))

-- The same with exponents of either sign.
odd_power : (m n : ℕ) (e g : ℤ) → m % 2 ≡ 1 → n % 2 ≡ 1 → m * up e * down g ≡ n * up g * down e → (m ≡ n) × (e ≡ g)
odd_power m n (pos i) (pos j) o p h =
    let r = odd_pow m n i j o p (sym (mul-one (m * 2 ^ i)) ∙ h ∙ mul-one (n * 2 ^ j)) in
    (r.0, ap pos r.1)
odd_power m n (pos i) (negsuc j) o p h =
    let r = odd_pow m n (i + suc j) 0 o p (times m i (suc j) ∙ h ∙ mul-one (n * 1)) in
    absurd (omega (arith, r.1))
odd_power m n (negsuc i) (pos j) o p h =
    let r = odd_pow m n 0 (j + suc i) o p (sym (mul-one (m * 1)) ∙ h ∙ sym (times n j (suc i))) in
    absurd (omega (arith, r.1))
odd_power m n (negsuc i) (negsuc j) o p h =
    let r = odd_pow m n (suc j) (suc i) o p (ap (λ (x : ℕ). x * 2 ^ suc j) (sym (mul-one m)) ∙ h ∙ ap (λ (x : ℕ). x * 2 ^ suc i) (mul-one n)) in
    (r.0, sym (ap negsuc (omega (arith, r.1))))

-- ---- How a value that fits is written: 0 with the exponent 0, or with an odd number

flat : (e : ℤ) → up e * down e ≡ 1 → e ≡ pos 0
flat (pos zero) h = refl
flat (pos (suc k)) h = absurd (omega (arith, pow-suc 2 k, mul-one (2 ^ suc k)))
flat (negsuc k) h = absurd (omega (arith, pow-suc 2 k, one-mul (2 ^ suc k)))

abbrev Shape : ℕ → ℤ → Type 0
Shape m e = ((m ≡ 0) × (e ≡ pos 0)) ⊎ (m % 2 ≡ 1)

written : (s : Bool) (m : ℕ) (e : ℤ) → T (fits binary32 (fin s m e)) → Shape m e
unfolding fits
written s zero e t = inl (refl, flat e (eqb→eq (up e * down e) 1 t))
written s (suc m) e t =
    let odd = eqb (suc m % 2) 1 in
    let small = ltb (suc m) (2 ^ prec binary32) in
    let fine = leb (down e) (2 ^ low binary32) in
    inr (eqb→eq (suc m % 2) 1 (and_l odd small (and_l (odd && small) fine
    (and_l (odd && small && fine) (ltb (suc m * up e) (2 ^ suc (emax binary32) * down e)) t))))

-- ---- Two of one value

-- The fractions are equal, crosswise.
crosswise : (a b c d n : ℕ) → a * stroke ≡ n * c → b * stroke ≡ n * d → a * d ≡ b * c
crosswise a b c d n p q =
    eq_of_mul-eq-mul_right stroke (lit< tt) (a * d) (b * c)
    (mul_right_comm a d stroke ∙ ap (λ (x : ℕ). x * d) p ∙ mul_right_comm n c d ∙ sym (ap (λ (x : ℕ). x * c) q) ∙ mul_right_comm b stroke c)

no_number : (n a b : ℕ) → 0 < a → 0 < b → n % 2 ≡ 1 → 0 ≡ n * a * b → ⊥
no_number zero a b p q o h = omega (arith, o)
no_number (suc n) a b p q o h = omega (arith, mul-pos (mul-pos (zero-lt-suc n) p) q)

module _ (s t : Bool) (m n : ℕ) (e g : ℤ) where
  from_shapes : s ≡ t → m * up e * down g ≡ n * up g * down e → Shape m e → Shape n g → fin s m e ≡ fin t n g
  from_shapes sign cross (inl z) (inl w) = cc
  from_shapes sign cross (inl z) (inr o) =
      absurd (no_number n (up g) (down e) (up_pos g) (down_pos e) o (rw (z.0, zero-mul (up e), zero-mul (down g)) at cross))
  from_shapes sign cross (inr o) (inl z) =
      absurd (no_number m (up e) (down g) (up_pos e) (down_pos g) o (sym (rw (z.0, zero-mul (up g), zero-mul (down e)) at cross)))
  from_shapes sign cross (inr o) (inr p) = let r = odd_power m n e g o p cross in cc

-- Two floats that a 32-bit float can be, and that equal so many parts, are one.
pub one_float : (x y : Float) (n : ℕ) → T (fits binary32 x) → T (fits binary32 y) → EqualsParts x n → EqualsParts y n → x ≡ y
one_float nan y n p q v w = absurd v
one_float (inf s) y n p q v w = absurd v
one_float (fin s m e) nan n p q v w = absurd w
one_float (fin s m e) (inf t) n p q v w = absurd w
one_float (fin s m e) (fin t k g) n p q v w =
    from_shapes s t m k e g (v.0 ∙ sym w.0)
    (crosswise (m * up e) (k * up g) (down e) (down g) n v.1 w.1)
    (written s m e p) (written t k g q)
