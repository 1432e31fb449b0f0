-- Request K2: "every value at every time up to the last one written".
-- Assumes nothing.
use Rattle.std.specs.Prelude.{ℕ, Bool, true, false, cond, List, [], ◌∷◌, leb}
use Rattle.dump.specs.Dumps.{Moment, differ}

-- The values at a time: those of the last moment that is not after it, or these where there is none.
unfoldable pub values_from : List Bool → ℕ → List Moment → List Bool
values_from values t [] = values
values_from values t (m ∷ ms) = cond (leb m.time t) (values_from m.values t ms) values

unfoldable pub values_at : ℕ → List Moment → List Bool
values_at t ms = values_from [] t ms

-- The same values.
unfoldable pub same_values : List Bool → List Bool → Bool
same_values [] [] = true
same_values [] (v ∷ vs) = false
same_values (u ∷ us) [] = false
same_values (u ∷ us) (v ∷ vs) = cond (differ u v) false (same_values us vs)

-- The moments that are written: the first, and each at which something changes.
unfoldable pub shown_after : List Bool → List Moment → List Moment
shown_after values [] = []
shown_after values (m ∷ ms) = cond (same_values values m.values) (shown_after values ms) (m ∷ shown_after m.values ms)

unfoldable pub shown : List Moment → List Moment
shown [] = []
shown (m ∷ ms) = m ∷ shown_after m.values ms
