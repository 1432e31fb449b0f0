-- Words on lists that the rules use.
-- Assumes nothing.
use Rattle.std.specs.Prelude.{Bool, true, false, ◌&&◌, ◌||◌, List, [], ◌∷◌, ℕ, zero, suc}

-- Some element passes the test.
unfoldable pub some : {A : Type 0} → (A → Bool) → List A → Bool
some p [] = false
some p (x ∷ xs) = p x || some p xs

-- Every element passes the test.
unfoldable pub all : {A : Type 0} → (A → Bool) → List A → Bool
all p [] = true
all p (x ∷ xs) = p x && all p xs

-- Of each element this is so.
abbrev pub Each : {A : Type 0} → (A → Type 0) → List A → Type 0
Each P [] = Unit {0}
Each P (x ∷ xs) = P x × Each P xs

-- A function of place and element at each element, where the first has this place.
unfoldable pub each_from : {A : Type 0} → (ℕ → A → A) → ℕ → List A → List A
each_from f i [] = []
each_from f i (x ∷ xs) = f i x ∷ each_from f (suc i) xs

-- What a rule gives at so many numbers from one on.
unfoldable pub given_from : {A : Type 0} → (ℕ → A) → ℕ → ℕ → List A
given_from f n zero = []
given_from f n (suc more) = f n ∷ given_from f (suc n) more
