-- Some rows of a file one after the other, refused ones among them. Time is accepted time: a state bears the stamp of the last accepted
-- sample, so nothing elapses at a row that is refused.
-- Assumes nothing.
use Rattle.std.specs.Prelude.{ℕ, ◌+◌, List, [], ◌∷◌, ◌++◌, ◌≡◌}
use Rattle.controller.specs.declared.State.{State}
use Rattle.controller.specs.Stages.{elapsed_of}
use Rattle.reading.specs.declared.Came.TheVariants.{Answered}
use Rattle.files.specs.Told.{Told, told}

-- ---- Of one row

-- The row is answered, with this code.
abbrev pub IsAnswered : ℕ → Told → Type 0
IsAnswered code t = (label : ℕ) × (t.came ≡ Answered label code)

-- What has elapsed at it.
abbrev pub elapsed_at : Told → ℕ
elapsed_at t = elapsed_of t.before.stamp t.after.stamp

-- ---- Of some rows

-- What has elapsed at them, added up.
unfoldable pub elapsed_over : List Told → ℕ
elapsed_over [] = 0
elapsed_over (t ∷ ts) = elapsed_at t + elapsed_over ts

-- The state that the last of them shows; where there are none, the one before.
unfoldable pub state_after : State → List Told → State
state_after s [] = s
state_after s (t ∷ ts) = state_after t.after ts

-- A row of the file of an input, and some of the rows behind it, from the next one on.
pub record Stretch (state : State) (input : List ℕ) (first : Told) (rest : List Told) : Type 0 where
  pub front : List Told
  pub back : List Told
  pub are : told state input ≡ front ++ first ∷ (rest ++ back)
