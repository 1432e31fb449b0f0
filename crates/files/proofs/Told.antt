-- What is written is the output header and the texts of what the rows of the input came to, in their order, each from what the one in front
-- of it shows.
-- Assumes nothing.
use Prim.Native.Nat.{ℕ, ◌+◌}
use mathlib.Core.List.{List, [], ◌∷◌, ◌++◌, append-nil}
use mathlib.Core.Path.{◌≡◌, refl, sym, ap, ◌∙◌}
use Rattle.lines.specs.Rows.{rows_of}
use Rattle.controller.specs.declared.State.{State}
use Rattle.controller.specs.Start.{fresh_of}
use Rattle.output.specs.Rows.{header_text}
use Rattle.reading.specs.declared.Reading.{Reading}
use Rattle.reading.specs.Rows.{row_of, read_from}
use Rattle.reading.specs.Runs.{in_rows}
use Rattle.lesson.specs.Replay.{text_by, written_of, replay_of, resumed_of}
use Rattle.lesson.proofs.Law.{replay_is_fresh}
use Rattle.common.specs.Lists.{Each}
use Rattle.files.specs.Told.{Told, told_from, told, texts_of, Linked}

written_from : (line : ℕ) (reading : Reading) (rows : List (List ℕ)) → written_of reading rows ≡ texts_of (told_from line reading rows)
unfolding written_of in_rows told_from texts_of
written_from line reading [] = sym (append-nil _)
written_from line reading (row ∷ rows) =
    let heard = row_of reading row in
    ap (◌++◌ (text_by heard.came heard.reading.state)) (written_from (line + 1) heard.reading rows)

-- Of a lesson that goes on from a controller ..
pub written_is_told : (state : State) (input : List ℕ) → resumed_of state input ≡ header_text ++ texts_of (told state input)
unfolding resumed_of told
written_is_told state input = ap (◌++◌ header_text) (written_from 1 (read_from state) (rows_of input))

-- .. and of `replay`.
pub replay_is_told : (input : List ℕ) → replay_of input ≡ header_text ++ texts_of (told (fresh_of 0) input)
replay_is_told input = replay_is_fresh input ∙ written_is_told (fresh_of 0) input

linked : (line : ℕ) (reading : Reading) (rows : List (List ℕ)) → Linked line reading.state (told_from line reading rows)
unfolding told_from
linked line reading [] = (refl, refl, tt)
linked line reading (row ∷ rows) = (refl, refl, linked (line + 1) (row_of reading row).reading rows)

-- The rows of a file from line 1 on: each is on the line behind the one in front of it, and starts from the state that that one shows. So a
-- law of the states before and after each row is a law from row to row.
pub rows_are_linked : (state : State) (input : List ℕ) → Linked 1 state (told state input)
unfolding told
rows_are_linked state input = linked 1 (read_from state) (rows_of input)

-- What holds of each row of a list gives what follows from it.
pub each : (P Q : Told → Type 0) → ((t : Told) → P t → Q t) → (ts : List Told) → Each P ts → Each Q ts
each P Q gives [] ps = tt
each P Q gives (t ∷ ts) ps = (gives t ps.0, each P Q gives ts ps.1)
