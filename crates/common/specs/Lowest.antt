-- Numbered tests, of which the first that holds gives its number: document 01's refusals and causes.
-- Assumes nothing.
use Rattle.std.specs.Prelude.{Bool, cond, List, [], ◌∷◌, ℕ, suc}

-- The number of the first test that holds, where the list's first test has this number; `rest` where none holds.
abbrev pub lowest_or : ℕ → List Bool → ℕ → ℕ
lowest_or n [] rest = rest
lowest_or n (t ∷ ts) rest = cond t n (lowest_or (suc n) ts rest)

-- The same, with 0 where none holds.
abbrev pub lowest : ℕ → List Bool → ℕ
lowest n ts = lowest_or n ts 0
