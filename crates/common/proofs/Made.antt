-- An array that `from_fn` made of a closure that changes nothing: at each place stands what the closure gives of it.
-- Assumes nothing.
use Rattle.std.proofs.Common.{◌≡◌, ℕ, zero, suc, ◌+◌, ◌<◌, List, get_or, sym, ◌∙◌, subst, arith}
use Rattle.std.specs.Array.{IsFromFnResultFrom, IsFromFnResult}
use denote.Param.Members.{Mut, Called}

module _ {F B : Type 0} (g : Mut F (ℕ × Unit {0}) B) (f : F) (h : ℕ → B)
    (calls : (i : ℕ) (y : B) (q : F) → Called g f (i, tt) y q → (q ≡ f) × (y ≡ h i)) where
  made_from : (ys : List B) (k n : ℕ) → IsFromFnResultFrom g f ys k n → (i : ℕ) (d : B) → i < n → get_or ys (k + i) d ≡ h (k + i)
  made_from ys k zero e i d l = absurd (omega arith)
  made_from ys k (suc n) e zero d l =
      let here : k + 0 ≡ k = omega arith in
      let one : get_or ys k d ≡ h k = e.2.1 d ∙ (calls k e.1 e.0 e.3).1 in
      subst (λ (j : ℕ). get_or ys j d ≡ h j) (sym here) one
  made_from ys k (suc n) e (suc i) d l =
      let next : k + 1 + i ≡ k + suc i = omega arith in
      let rest = subst (λ (q : F). IsFromFnResultFrom g q ys (k + 1) n) (calls k e.1 e.0 e.3).0 e.4 in
      subst (λ (j : ℕ). get_or ys j d ≡ h j) next (made_from ys (k + 1) n rest i d (omega arith))

  pub made_by : (ys : List B) (n : ℕ) → IsFromFnResult g f ys n → (i : ℕ) (d : B) → i < n → get_or ys i d ≡ h i
  made_by ys n made i d l =
      let here : 0 + i ≡ i = omega arith in
      subst (λ (j : ℕ). get_or ys j d ≡ h j) here (made_from ys 0 n made.each i d l)
