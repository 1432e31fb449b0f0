-- The first row by its two cases, which are the same for every controller: it ends the reading on line 1, or it is the header.
-- Assumes nothing.
use Rattle.std.specs.Prelude.{Some}
use Prim.Native.Nat.{ℕ}
use mathlib.Core.List.{List}
use mathlib.Core.Path.{◌≡◌}
use lib.Dec.{ltb}
use lib.ListN.{length}
use Rattle.lines.proofs.Steps.{either}
use Rattle.trace.specs.Rows.{longest_row}
use Rattle.trace.specs.Header.{header_text as trace_header, same_text}
use Rattle.controller.specs.declared.State.{State}
use Rattle.reading.specs.declared.Phase.TheVariants.{Rows}
use Rattle.reading.specs.declared.Heard.{Heard}
use Rattle.reading.specs.Rows.{untold, ends_at, header_row}

pub data First (row : List ℕ) : Type 0 where
  ends : (refusal : ℕ) → ((state : State) → header_row state row ≡ ends_at 1 refusal state) → First row
  opens : ((state : State) → header_row state row ≡ untold (record { phase = Rows (Some 0); state = state })) → First row

pub first_row : (row : List ℕ) → First row
unfolding header_row
first_row row =
    either (ltb longest_row (length row)) (λ e. ends 6 (λ state. rw e))
    (λ e. either (same_text row trace_header) (λ f. opens (λ state. rw (e, f))) (λ f. ends 5 (λ state. rw (e, f))))

-- What holds of both holds of the row.
pub by_first_row : (P : Heard → Type 0) (state : State) (row : List ℕ)
    → ((refusal : ℕ) → P (ends_at 1 refusal state))
    → P (untold (record { phase = Rows (Some 0); state = state }))
    → P (header_row state row)
by_first_row P state row ended opened = by (first_row row) where
  by : First row → P (header_row state row)
  by (ends refusal e) = rw (e state) (ended refusal)
  by (opens e) = rw (e state) opened
