-- Triples that are written are read back, and triples that are read are those that are written for their channels.
-- Assumes nothing.
use mathlib.Core.Path.{◌≡◌, refl, subst}
use mathlib.Core.Bool.{Bool, true, false, cond, ◌&&◌}
use mathlib.Core.List.{List, [], ◌∷◌, ◌++◌}
use Prim.Native.Nat.{ℕ, zero, suc, ◌+◌, ◌*◌, ◌-◌, ◌≤◌}
use native.Mathlib.Omega.{arith}
use lib.ListN.{length, length-append}
use borrow.Author.Tests.{ne_eqb}
use Rattle.common.specs.Answers.{Answer, gives, refuses}
use Rattle.common.specs.Ascii.{joined_by_commas}
use Rattle.common.specs.Decimal.{digit0}
use Rattle.trace.specs.Numbers.{is_bit, triple_of}
use Rattle.trace.specs.Rows.{joined, triples_of}
use Rattle.trace.specs.Written.{AllBits, triple_texts}
use Rattle.trace.proofs.Cases.{refusal_gives_nothing}
use Rattle.trace.proofs.Commas.{AllOver}
use Rattle.trace.proofs.Digits.{is_bit_lem, three_bits}

back : (a : ℕ) → digit0 + a - digit0 ≡ a
back a = omega arith

triple_read : (a b c : ℕ) → a ≤ 1 → b ≤ 1 → c ≤ 1 → triple_of ((digit0 + a) ∷ (digit0 + b) ∷ (digit0 + c) ∷ []) ≡ gives (a ∷ b ∷ c ∷ [])
unfolding triple_of
triple_read a b c p q r = simp (is_bit_lem a p, is_bit_lem b q, is_bit_lem c r, back a, back b, back c)

pub texts_read : (n : ℕ) (bits : List ℕ) → length bits ≡ n * 3 → AllBits bits → triples_of n (triple_texts n bits) ≡ gives bits
unfolding triples_of triple_texts
texts_read zero [] size h = refl
texts_read zero (a ∷ bits) size h = absurd (omega arith)
texts_read (suc n) [] size h = absurd (omega arith)
texts_read (suc n) (a ∷ []) size h = absurd (omega arith)
texts_read (suc n) (a ∷ b ∷ []) size h = absurd (omega arith)
texts_read (suc n) (a ∷ b ∷ c ∷ bits) size h =
    rw (triple_read a b c h.0 h.1.0 h.1.1.0, texts_read n bits (omega arith) h.1.1.1)

-- They are digits alone.
pub texts_over : (n : ℕ) (bits : List ℕ) → AllOver (triple_texts n bits)
unfolding triple_texts
texts_over zero bits = tt
texts_over (suc n) [] = tt
texts_over (suc n) (a ∷ []) = tt
texts_over (suc n) (a ∷ b ∷ []) = tt
texts_over (suc n) (a ∷ b ∷ c ∷ bits) = ((omega arith, (omega arith, (omega arith, tt))), texts_over n bits)

-- They take four bytes each, with their commas.
pub texts_length : (f : List ℕ) (n : ℕ) (bits : List ℕ) → length (joined_by_commas (f ∷ triple_texts n bits)) ≤ length f + 4 * n
unfolding triple_texts joined_by_commas
texts_length f zero bits = omega arith
texts_length f (suc n) [] = omega arith
texts_length f (suc n) (a ∷ []) = omega arith
texts_length f (suc n) (a ∷ b ∷ []) = omega arith
texts_length f (suc n) (a ∷ b ∷ c ∷ bits) =
    let t : List ℕ = (digit0 + a) ∷ (digit0 + b) ∷ (digit0 + c) ∷ [] in
    simp length-append (omega (arith, texts_length t n bits))

-- ---- What is read

-- A triple that is read is the text of its channels.
pub record Three (t xs : List ℕ) : Type 0 where
  pub one : ℕ
  pub two : ℕ
  pub three : ℕ
  pub text : t ≡ (digit0 + one) ∷ (digit0 + two) ∷ (digit0 + three) ∷ []
  pub channels : xs ≡ one ∷ two ∷ three ∷ []
  pub bits : AllBits (one ∷ two ∷ three ∷ [])

triple_written : (t xs : List ℕ) → triple_of t ≡ gives xs → Three t xs
unfolding triple_of
triple_written [] xs h = refusal_gives_nothing h
triple_written (a ∷ []) xs h = refusal_gives_nothing h
triple_written (a ∷ b ∷ []) xs h = refusal_gives_nothing h
triple_written (a ∷ b ∷ c ∷ d ∷ t) xs h = refusal_gives_nothing (rw (ne_eqb (length (a ∷ b ∷ c ∷ d ∷ t)) 3 (λ q. omega arith)) at h)
triple_written (a ∷ b ∷ c ∷ []) xs h = by_test (is_bit a) (is_bit b) (is_bit c) refl refl refl h where
  by_test : (x y z : Bool) → x ≡ is_bit a → y ≡ is_bit b → z ≡ is_bit c
      → cond (x && y && z) (gives ((a - digit0) ∷ (b - digit0) ∷ (c - digit0) ∷ [])) (refuses 5) ≡ gives xs → Three (a ∷ b ∷ c ∷ []) xs
  by_test true true true p q r e =
      let k = three_bits a b c true true true p q r refl in
      let i : digit0 + (a - digit0) ≡ a = omega arith in
      let j : digit0 + (b - digit0) ≡ b = omega arith in
      let l : digit0 + (c - digit0) ≡ c = omega arith in
      record {
        one = a - digit0;
        two = b - digit0;
        three = c - digit0;
        text = rw (i, j, l);
        channels = cc;
        bits = (omega arith, (omega arith, (omega arith, tt)));
      }
  by_test true true false p q r e = refusal_gives_nothing e
  by_test true false z p q r e = refusal_gives_nothing e
  by_test false y z p q r e = refusal_gives_nothing e

-- So many triples that are read are the texts of their channels, three for each.
pub record Texts (n : ℕ) (ts : List (List ℕ)) (bits : List ℕ) : Type 0 where
  pub texts : ts ≡ triple_texts n bits
  pub only_bits : AllBits bits
  pub size : length bits ≡ n * 3

none_written : Texts 0 [] []
unfolding triple_texts
none_written = record { texts = refl; only_bits = tt; size = refl }

one_more_written : (n : ℕ) (t : List ℕ) (ts : List (List ℕ)) (xs ys : List ℕ) → Three t xs → Texts n ts ys → Texts (suc n) (t ∷ ts) (xs ++ ys)
unfolding triple_texts
one_more_written n t ts xs ys w rest =
    rw w.channels (record {
      texts = rw (w.text, rest.texts);
      only_bits = (w.bits.0, (w.bits.1.0, (w.bits.1.1.0, rest.only_bits)));
      size = omega (arith, rest.size);
    })

pub texts_written : (n : ℕ) (ts : List (List ℕ)) (bits : List ℕ) → triples_of n ts ≡ gives bits → Texts n ts bits
unfolding triples_of
texts_written zero [] bits h = let e : [] ≡ bits = cc in subst (Texts 0 []) e none_written
texts_written zero (t ∷ ts) bits h = refusal_gives_nothing h
texts_written (suc n) [] bits h = refusal_gives_nothing h
texts_written (suc n) (t ∷ ts) bits h = both (triple_of t) (triples_of n ts) refl refl (λ ys. texts_written n ts ys) h where
  both : (x y : Answer (List ℕ)) → triple_of t ≡ x → triples_of n ts ≡ y
      → ((ys : List ℕ) → triples_of n ts ≡ gives ys → Texts n ts ys) → joined x y ≡ gives bits → Texts (suc n) (t ∷ ts) bits
  both (gives xs) (gives ys) p q rest e =
      let all : xs ++ ys ≡ bits = cc in
      subst (Texts (suc n) (t ∷ ts)) all (one_more_written n t ts xs ys (triple_written t xs p) (rest ys q))
  both (gives xs) (refuses k) p q rest e = refusal_gives_nothing e
  both (refuses k) y p q rest e = refusal_gives_nothing e
