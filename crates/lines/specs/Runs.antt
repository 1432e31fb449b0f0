-- A whole run of cutting: the calls of `cut` and `last` over the parts of an input, and the rows that they give.
-- Assumes nothing.
use Rattle.std.specs.Prelude.{ℕ, Bool, false, cond, List, [], ◌∷◌, ◌++◌, ◌≡◌, ltb, length}
use Rattle.std.proofs.Math.Option.{Option, none, some}
use Rattle.common.specs.Answers.{Answer, gives, refuses}
use Rattle.lines.specs.Cuts.{cut_of, last_of}
use Rattle.lines.specs.Answers.{over_line, taken_says, final_says}
use Rattle.lines.specs.declared.Taken.TheVariants.{Row, More, Over}
use Rattle.lines.specs.declared.Final.{Final}

-- The rows up to the first that is over `most` bytes, which is refused with 6.
unfoldable pub up_to : ℕ → List (List ℕ) → List (Answer (List ℕ))
up_to most [] = []
up_to most (r ∷ rows) = cond (ltb most (length r)) (refuses over_line ∷ []) (gives r ∷ up_to most rows)

-- All parts as one.
abbrev pub joined : List (List ℕ) → List ℕ
joined [] = []
joined (part ∷ parts) = part ++ joined parts

-- The row that an answer gives, if any, or its refusal.
abbrev pub row_in : Answer (Option (List ℕ)) → List (Answer (List ℕ))
row_in (gives none) = []
row_in (gives (some row)) = gives row ∷ []
row_in (refuses n) = refuses n ∷ []

-- With the line buffer, what of it is the row so far, a held CR or none, a part from a place on, and the parts behind it, `cut` and `last`
-- give these rows: `cut` again behind each row that is whole, with the next part where one is used up; a row that is over ends the run,
-- and so does `last` behind the last part.
pub data Run : List ℕ → ℕ → Bool → List ℕ → ℕ → List (List ℕ) → List (Answer (List ℕ)) → Type 0 where
  row : {line : List ℕ} {len : ℕ} {c : Bool} {part : List ℕ} {from : ℕ} {parts : List (List ℕ)} {rows : List (Answer (List ℕ))}
      {used n : ℕ} {line' : List ℕ}
      → (Row used n, line') ≡ cut_of part from line len c
      → Run line' 0 false part used parts rows
      → Run line len c part from parts (row_in (taken_says (Row used n) line') ++ rows)
  more : {line : List ℕ} {len : ℕ} {c : Bool} {part : List ℕ} {from : ℕ} {next : List ℕ} {parts : List (List ℕ)}
      {rows : List (Answer (List ℕ))} {n : ℕ} {c' : Bool} {line' : List ℕ}
      → (More n c', line') ≡ cut_of part from line len c
      → Run line' n c' next 0 parts rows
      → Run line len c part from (next ∷ parts) (row_in (taken_says (More n c') line') ++ rows)
  over : {line : List ℕ} {len : ℕ} {c : Bool} {part : List ℕ} {from : ℕ} {parts : List (List ℕ)} {line' : List ℕ}
      → (Over, line') ≡ cut_of part from line len c
      → Run line len c part from parts (row_in (taken_says Over line'))
  ended : {line : List ℕ} {len : ℕ} {c : Bool} {part : List ℕ} {from : ℕ} {n : ℕ} {c' : Bool} {line' : List ℕ} {r : Final}
      {line'' : List ℕ}
      → (More n c', line') ≡ cut_of part from line len c
      → (r, line'') ≡ last_of line' n c'
      → Run line len c part from [] (row_in (final_says r line''))
