-- Request K3, "Hand a lesson to another laptop": the file of a lesson that was not handed over, and the two files of the same lesson,
-- handed over behind one of its rows.
-- Assumes nothing.
use Rattle.std.specs.Prelude.{ℕ, List, [], ◌∷◌, ◌++◌, ◌≡◌}
use Rattle.controller.specs.declared.Shown.{Shown}
use Rattle.files.specs.Traces.{Body, file_of}

-- The last of some rows shows this.
abbrev pub LastShows : Shown → List Body → Type 0
LastShows at [] = ⊥
LastShows at (b ∷ []) = b.1 ≡ at
LastShows at (b ∷ c ∷ bs) = LastShows at (c ∷ bs)

-- But for their labels the rows of the two files are those of the one, without the second row 0, which shows where the lesson goes on: what
-- the last row of the first file shows. Behind its rows each file has what its own input ends in: nothing, or the refusal that ends it.
pub record InTwoFiles (whole first second end_of_whole end_of_first end_of_second : List ℕ) : Type 0 where
  pub done : List Body
  pub others : List Body
  pub at : Shown
  pub as_one : whole ≡ file_of (done ++ others) ++ end_of_whole
  pub until_there : first ≡ file_of done ++ end_of_first
  pub from_there : second ≡ file_of ((0, at) ∷ others) ++ end_of_second
  pub goes_on_at : LastShows at done
