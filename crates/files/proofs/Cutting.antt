-- Rows without a CR, each with its CRLF, are cut into these rows again.
-- Assumes nothing.
use Prim.Native.Nat.{ℕ}
use native.Mathlib.Omega.{arith}
use mathlib.Core.Bool.{Bool, true, false, not, ◌&&◌}
use mathlib.Core.List.{List, [], ◌∷◌, ◌++◌}
use mathlib.Core.Path.{◌≡◌, refl, sym, ap, subst, ◌∙◌}
use borrow.Author.Tests.{ne_eqb}
use lib.Dec.{T, eqb}
use Rattle.common.specs.Ascii.{cr, crlf, comma, ended, joined_by_commas}
use Rattle.lines.specs.Rows.{before, rows_of}
use Rattle.trace.proofs.Commas.{Over, AllOver}

-- No byte is a CR.
abbrev pub NoCr : List ℕ → Type 0
NoCr [] = Unit {0}
NoCr (b ∷ bs) = (eqb b cr ≡ false) × NoCr bs

abbrev pub NoneHasCr : List (List ℕ) → Type 0
NoneHasCr [] = Unit {0}
NoneHasCr (row ∷ rows) = NoCr row × NoneHasCr rows

-- The same as a test.
unfoldable pub clean : List ℕ → Bool
clean [] = true
clean (b ∷ bs) = not (eqb b cr) && clean bs

pub tested : (s : List ℕ) → clean s ≡ true → NoCr s
unfolding clean
tested [] e = tt
tested (b ∷ bs) e = by (eqb b cr) refl e (tested bs) where
  by : (t : Bool) → eqb b cr ≡ t → not t && clean bs ≡ true → (clean bs ≡ true → NoCr bs) → NoCr (b ∷ bs)
  by false f g others = (f, others g)
  by true f g others = absurd (subst T (sym g) tt)

-- ---- Cutting

one_byte : (b : ℕ) (row rest : List ℕ) → eqb b cr ≡ false
    → rows_of (b ∷ (row ++ crlf ++ rest)) ≡ before (b ∷ []) (rows_of (row ++ crlf ++ rest))
unfolding rows_of
one_byte b [] rest h = rw h
one_byte b (c ∷ row) rest h = rw h

pub cut_row : (row rest : List ℕ) → NoCr row → rows_of (row ++ crlf ++ rest) ≡ row ∷ rows_of rest
unfolding rows_of before
cut_row [] rest h = refl
cut_row (b ∷ row) rest h = one_byte b row rest h.0 ∙ ap (before (b ∷ [])) (cut_row row rest h.1)

pub cut_again : (rows : List (List ℕ)) → NoneHasCr rows → rows_of (ended rows) ≡ rows
unfolding rows_of ended
cut_again [] h = refl
cut_again (row ∷ rows) h = cut_row row (ended rows) h.0 ∙ ap (λ (others : List (List ℕ)). row ∷ others) (cut_again rows h.1)

-- ---- Rows that have none

no_cr_append : (s t : List ℕ) → NoCr s → NoCr t → NoCr (s ++ t)
no_cr_append [] t p q = q
no_cr_append (b ∷ s) t p q = (p.0, no_cr_append s t p.1 q)

digits : (f : List ℕ) → Over f → NoCr f
digits [] h = tt
digits (b ∷ f) h = (ne_eqb b cr (λ e. omega (arith, h.0)), digits f h.1)

pub fields : (fs : List (List ℕ)) → NoneHasCr fs → NoCr (joined_by_commas fs)
unfolding joined_by_commas
fields [] h = tt
fields (f ∷ []) h = h.0
fields (f ∷ g ∷ fs) h = no_cr_append f (comma ∷ joined_by_commas (g ∷ fs)) h.0 (refl, fields (g ∷ fs) h.1)

pub all_digits : (fs : List (List ℕ)) → AllOver fs → NoneHasCr fs
all_digits [] h = tt
all_digits (f ∷ fs) h = (digits f h.0, all_digits fs h.1)
