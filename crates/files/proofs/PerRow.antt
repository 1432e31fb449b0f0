-- One row for each row of the input: behind the header each row is answered, up to the end of the input or to the refusal that ends the
-- reading, and nothing follows that.
-- Assumes nothing.
use Rattle.std.specs.Prelude.{Option, Some}
use Prim.Native.Nat.{ℕ, ◌+◌}
use mathlib.Core.List.{List, [], ◌∷◌}
use mathlib.Core.Logic.{◌⊎◌, inl, inr}
use mathlib.Core.Path.{◌≡◌, refl}
use Rattle.lines.specs.Rows.{rows_of}
use Rattle.controller.specs.declared.State.{State}
use Rattle.reading.specs.declared.Phase.TheVariants.{Rows, Ended}
use Rattle.reading.specs.declared.Reading.{Reading}
use Rattle.reading.specs.declared.Heard.{Heard}
use Rattle.reading.specs.Rows.{ends_at, shown_row, trace_row, row_of, end_of, read_from}
use Rattle.common.specs.Lists.{Each}
use Rattle.files.specs.Told.{Told, told_of, told_from, told}
use Rattle.files.specs.RowLaws.{Untold, OneForEach, WholeFile}
use Rattle.files.specs.RowLaws.OneForEach.{at_end, at_refusal, at_row}
use Rattle.files.specs.RowLaws.WholeFile.{no_header, behind_header}
use Rattle.files.proofs.EachRow.{read_at, by_header, Behind, behind}
use Rattle.files.proofs.EachRow.Behind.{reads, ends}

-- What is told of a row and of those behind it.
abbrev from : ℕ → List ℕ → Reading → List (List ℕ) → Heard → List Told
from line row reading rows heard = told_of line row reading heard ∷ told_from (line + 1) heard.reading rows

-- Behind a refusal.
nothing_more : (line at refusal : ℕ) (state : State) (rows : List (List ℕ))
    → Each Untold (told_from line (read_at (Ended at refusal) state) rows)
unfolding told_from row_of end_of
nothing_more line at refusal state [] = (refl, tt)
nothing_more line at refusal state (row ∷ rows) = (refl, nothing_more (line + 1) at refusal state rows)

-- Behind the header.
one_row : (line : ℕ) (due : Option ℕ) (state : State) (row : List ℕ) (rows : List (List ℕ))
    → ((due' : Option ℕ) (state' : State) → OneForEach (told_from (line + 1) (read_at (Rows due') state') rows))
    → Behind due state row
    → OneForEach (from line row (read_at (Rows due) state) rows (trace_row due state row))
unfolding shown_row ends_at
one_row line due state row rows others (reads label stamp sample form was here) = rw here (at_row _ _ label _ refl (others _ _))
one_row line due state row rows others (ends refusal code here) =
    rw here (at_refusal _ _ _ refusal refl (nothing_more (line + 1) _ refusal state rows))

rows_behind : (line : ℕ) (due : Option ℕ) (state : State) (rows : List (List ℕ)) → OneForEach (told_from line (read_at (Rows due) state) rows)
unfolding told_from row_of end_of
rows_behind line due state [] = at_end _ refl
rows_behind line due state (row ∷ rows) =
    one_row line due state row rows (λ due' state'. rows_behind (line + 1) due' state' rows) (behind due state row)

-- From the header on.
ends_there : (row : List ℕ) (state : State) (rows : List (List ℕ)) (refusal : ℕ) → (refusal ≡ 5) ⊎ (refusal ≡ 6)
    → WholeFile (from 1 row (read_from state) rows (ends_at 1 refusal state))
unfolding ends_at
ends_there row state rows refusal which = no_header _ _ refusal which refl (nothing_more 2 1 refusal state rows)

whole : (state : State) (rows : List (List ℕ)) → WholeFile (told_from 1 (read_from state) rows)
unfolding told_from row_of end_of ends_at
whole state [] = no_header _ _ 5 (inl refl) refl tt
whole state (row ∷ rows) =
    by_header (λ (heard : Heard). WholeFile (from 1 row (read_from state) rows heard)) state row
    (ends_there row state rows 6 (inr refl))
    (ends_there row state rows 5 (inl refl))
    (behind_header _ _ refl (rows_behind 2 (Some 0) state rows))

pub one_row_per_row : (state : State) (input : List ℕ) → WholeFile (told state input)
unfolding told
one_row_per_row state input = whole state (rows_of input)
