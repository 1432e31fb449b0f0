-- When saving into a lent buffer is refused, and when an image has a line. (That what is written of a whole trace is the image of its last
-- state, and that its line is that of the last row that was answered, is the crate `files`.)
-- Assumes nothing.
use Prim.Native.Nat.{ℕ, ◌-◌}
use native.Mathlib.Omega.{arith}
use mathlib.Core.Bool.{cond, ◌&&◌}
use mathlib.Core.List.{List}
use mathlib.Core.Path.{◌≡◌, refl}
use borrow.Author.Tests.{ltb-true, lt-ltb}
use lib.Dec.{ltb}
use lib.ListN.{length}
use Rattle.lines.proofs.Steps.{either}
use Rattle.image.specs.Images.{size, save_of}
use Rattle.reading.specs.declared.Phase.{Phase}
use Rattle.reading.specs.declared.Phase.TheVariants.{Header, Rows, Ended}
use Rattle.reading.specs.Rows.{line_of, line_at, has_started}
use Rattle.reading.specs.declared.Run.{Run}
use Rattle.handing.specs.Handing.{line_before, last_line, save_last_of}
use Rattle.handing.proofs.Saving.{with_row_0, without_row_0}

-- ---- Into a lent buffer

-- 8 exactly if there is an image to write and no room for it.
pub refused_exactly : (run : Run) (out : List ℕ)
    → (save_last_of run out).0.refusal ≡ cond (has_started run.reading.phase && ltb (length out) size) 8 0
unfolding save_of
refused_exactly run out =
    either (has_started run.reading.phase)
    (λ read. rw (with_row_0 run out read, read) (either (ltb (length out) size) (λ short. rw short) (λ fits. rw fits)))
    (λ unread. rw (without_row_0 run out unread, unread))

-- ---- Of which line the image is

has_line : (line : ℕ) → ltb 0 (line_before line) ≡ ltb 2 line
has_line line = either (ltb 2 line) (λ row. rw row (lt-ltb 0 (line - 1) (omega (arith, ltb-true 2 line row)))) (λ none. rw none)

-- There is a line exactly if there is an image to write.
pub line_exactly : (phase : Phase) → ltb 0 (last_line phase) ≡ has_started phase
line_exactly Header = refl
line_exactly (Rows due) = has_line (line_of due)
line_exactly (Ended line refusal) = has_line line

-- It is the one before the line that is due, or that the reading ended on.
pub by_line : (phase : Phase) → last_line phase ≡ line_before (line_at phase)
by_line Header = refl
by_line (Rows due) = refl
by_line (Ended line refusal) = refl
