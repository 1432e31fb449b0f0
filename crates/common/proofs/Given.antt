-- What a rule gives at the numbers from one on: at each of them, and the texts of one more.
-- Assumes nothing.
use Prim.Native.Nat.{ℕ, zero, suc, ◌+◌, ◌<◌}
use native.Mathlib.Nat.{zero-add, add-zero, add-suc, suc-add, le_of_suc-le-suc, not-suc-le-zero}
use native.Mathlib.Numerals.{add-one}
use mathlib.Core.List.{List, ◌++◌, append_assoc, append-nil, flatten}
use mathlib.Core.Path.{◌≡◌, sym, ap, ◌∙◌}
use lib.ListN.{get_or}
use Rattle.common.specs.Lists.{given_from}

module _ {A : Type 0} (f : ℕ → A) (other : A) where
  pub given_at : (n more k : ℕ) → k < more → get_or (given_from f n more) k other ≡ f (n + k)
  unfolding given_from
  given_at n zero k h = absurd (not-suc-le-zero h)
  given_at n (suc more) zero h = ap f (sym (add-zero n))
  given_at n (suc more) (suc k) h = given_at (suc n) more k (le_of_suc-le-suc h) ∙ ap f (suc-add n k ∙ sym (add-suc n k))

  -- The same from 0 on.
  pub given_at_0 : (more k : ℕ) → k < more → get_or (given_from f 0 more) k other ≡ f k
  given_at_0 more k h = given_at 0 more k h ∙ ap f (zero-add k)

-- Rules that give the same from 0 on are the same at each number.
pub same_at_each : {A : Type 0} (f g : ℕ → A) (other : A) (more : ℕ) → given_from f 0 more ≡ given_from g 0 more
    → (n : ℕ) → n < more → f n ≡ g n
same_at_each f g other more e n h =
    sym (given_at_0 f other more n h) ∙ ap (λ (l : List _). get_or l n other) e ∙ given_at_0 g other more n h

-- ---- Texts, one after the other

module _ (text : ℕ → List ℕ) where
  one_more : (first k : ℕ) → flatten (given_from text first k) ++ text (k + first) ≡ flatten (given_from text first (suc k))
  unfolding given_from flatten
  one_more first zero = ap text (zero-add first) ∙ sym (append-nil (text first))
  one_more first (suc k) =
      let others = flatten (given_from text (suc first) k) in
      append_assoc (text first) others (text (suc k + first))
      ∙ ap (λ (n : ℕ). text first ++ (others ++ text n)) (suc-add k first ∙ sym (add-suc k first))
      ∙ ap (λ (l : List ℕ). text first ++ l) (one_more (suc first) k)

  -- A turn of a loop that counts from 0 adds the next text.
  pub text_turn : (k : ℕ) → flatten (given_from text 0 k) ++ text k ≡ flatten (given_from text 0 (k + 1))
  text_turn k =
      ap (λ (n : ℕ). flatten (given_from text 0 k) ++ text n) (sym (add-zero k))
      ∙ one_more 0 k
      ∙ ap (λ (n : ℕ). flatten (given_from text 0 n)) (sym (add-one k))
