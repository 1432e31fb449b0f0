-- The first item out of its range, and the first rule broken: as a loop looks for them, and that there is none where all is well.
-- Assumes nothing.
use Rattle.std.specs.Prelude.{Option, None, Some, nat_lt}
use Rattle.std.specs.Option.{is_some}
use Rattle.std.specs.List.{position, position_or_len}
use Rattle.std.proofs.lemmas.Bool.{ne_eqb, ltb-true, ltb-false}
use Rattle.std.proofs.lemmas.List.Sums.{prefix_len-le-length}
use Rattle.std.proofs.Common.{rules}
use Prim.Native.Nat.{ℕ, suc, ◌+◌, ◌≤◌, ◌<◌}
use native.Mathlib.Numerals.{add-one}
use native.Mathlib.Omega.{arith}
use mathlib.Core.Bool.{Bool, true, false, not, cond, ◌&&◌}
use mathlib.Core.List.{List, [], ◌∷◌, ◌++◌}
use mathlib.Core.Path.{◌≡◌, refl, sym, ◌∙◌}
use borrow.Author.Tests.{eq-eqb}
use lib.Dec.{eqb, leb, eqb-zero-suc, eqb-suc-suc}
use lib.ListN.{length, drop, drop_of_length-le}
use lib.Seq.{drop-cons}
use Rattle.common.specs.Tests.{every}
use Rattle.image.specs.Xdr.{items_in}
use Rattle.image.specs.Items.{within, item_at}
use Rattle.image.specs.Faults.{first_out, first_broken, all_zero, is_blank, IsPlace}

-- ---- One after the other

module _ (tops items : List ℕ) (k : ℕ) (a : k < length tops) (b : k < length items) where
  pub out_turn :
      first_out (drop k tops) (drop k items)
      ≡ cond (leb (item_at items k) (item_at tops k)) (suc (first_out (drop (k + 1) tops) (drop (k + 1) items))) 0
  unfolding first_out
  out_turn = rw (add-one, drop-cons tops k 0 a, drop-cons items k 0 b)

pub out_end : (tops items : List ℕ) (k : ℕ) → length tops ≤ k → first_out (drop k tops) (drop k items) ≡ 0
unfolding first_out
out_end tops items k h = rw (drop_of_length-le tops h)

-- The first test that fails.
pub first_broken_is : (tests : List Bool) → first_broken tests ≡ position_or_len not tests
unfolding first_broken
first_broken_is [] = refl
first_broken_is (true ∷ tests) = rw (first_broken_is tests) (search rules)
first_broken_is (false ∷ tests) = refl

pub first_broken_place : (tests : List Bool) → IsPlace (length tests) (first_broken tests) (position not tests)
first_broken_place tests = by (nat_lt (position_or_len not tests) (length tests)) refl where
  by : (t : Bool) → nat_lt (position_or_len not tests) (length tests) ≡ t
      → IsPlace (length tests) (first_broken tests) (cond t (Some (position_or_len not tests)) None)
  by true is = (sym (first_broken_is tests), ltb-true _ _ is)
  by false is = omega (arith, first_broken_is tests, ltb-false _ _ is, prefix_len-le-length (λ (t : Bool). not (not t)) tests)

-- ---- All is well exactly where none is found

pub none_out : (tops items : List ℕ) → length items ≡ length tops → within tops items ≡ eqb (first_out tops items) (length tops)
unfolding within first_out
none_out [] [] e = refl
none_out [] (item ∷ items) e = absurd (omega arith)
none_out (top ∷ tops) [] e = absurd (omega arith)
none_out (top ∷ tops) (item ∷ items) e = by_test (leb item top) (none_out tops items (omega arith)) where
  by_test : (t : Bool) → within tops items ≡ eqb (first_out tops items) (length tops)
      → (t && within tops items) ≡ eqb (cond t (suc (first_out tops items)) 0) (suc (length tops))
  by_test true rest = rest ∙ sym (eqb-suc-suc (first_out tops items) (length tops))
  by_test false rest = sym (eqb-zero-suc (length tops))

pub none_broken : (tests : List Bool) → every tests ≡ eqb (first_broken tests) (length tests)
unfolding first_broken
none_broken [] = refl
none_broken (true ∷ tests) = none_broken tests ∙ sym (eqb-suc-suc (first_broken tests) (length tests))
none_broken (false ∷ tests) = sym (eqb-zero-suc (length tests))

-- None is found exactly where the place is past them all.
pub none_found : (count place : ℕ) (found : Option ℕ) (none : Bool) → IsPlace count place found → is_some found ≡ not none → none ≡ eqb place count
none_found count place None true p e = sym (eq-eqb _ _ p)
none_found count place None false p e = absurd (cc)
none_found count place (Some k) true p e = absurd (cc)
none_found count place (Some k) false p e = sym (ne_eqb place count (λ all. omega (arith, p.0, p.1, all)))

-- ---- Every item is 0

pub blank_turn : (item rest : List ℕ) → length item ≡ 4 → is_blank (item ++ rest) ≡ (eqb (item_at (items_in item) 0) 0 && is_blank rest)
unfolding items_in all_zero is_blank
blank_turn [] rest e = absurd (omega arith)
blank_turn (a ∷ []) rest e = absurd (omega arith)
blank_turn (a ∷ b ∷ []) rest e = absurd (omega arith)
blank_turn (a ∷ b ∷ c ∷ []) rest e = absurd (omega arith)
blank_turn (a ∷ b ∷ c ∷ d ∷ []) rest e = refl
blank_turn (a ∷ b ∷ c ∷ d ∷ f ∷ item) rest e = absurd (omega arith)

pub blank_end : (rest : List ℕ) → length rest < 4 → is_blank rest ≡ true
unfolding items_in all_zero is_blank
blank_end [] h = refl
blank_end (a ∷ []) h = refl
blank_end (a ∷ b ∷ []) h = refl
blank_end (a ∷ b ∷ c ∷ []) h = refl
blank_end (a ∷ b ∷ c ∷ d ∷ rest) h = absurd (omega arith)
