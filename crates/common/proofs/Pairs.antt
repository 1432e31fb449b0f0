-- What is equal is equal part by part: of a contract that is one equation for the answer and the lent buffers.
-- Assumes nothing.
use mathlib.Core.Path.{◌≡◌, ap}

pub both : {A B : Type 0} {x y : A × B} → x ≡ y → (x.0 ≡ y.0) × (x.1 ≡ y.1)
both {A} {B} e = (ap (λ (z : A × B). z.0) e, ap (λ (z : A × B). z.1) e)

-- The answer, and two lent buffers.
pub all_three : {A B C : Type 0} {x y : A × B × C} → x ≡ y → (x.0 ≡ y.0) × (◌≡◌ {A = B × C} (x.1, x.2) (y.1, y.2))
all_three {A} {B} {C} e = (ap (λ (z : A × B × C). z.0) e, ap (λ (z : A × B × C). (z.1, z.2)) e)
