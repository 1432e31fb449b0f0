-- `chart::headings::put_ground_column` meets its contract: the word of the place's doors, behind what stands before it.
-- Assumes nothing.
use mathlib.Core.List.{append_assoc, append-nil}
use Rattle.chart.specs.Headings.{ground_column_text}
use Rattle.texts.proofs.Lines.{same}
use Rattle.chart.proofs.headings.put_ground_column.Goals as goal

pub returns : goal.returns
unfolding ground_column_text
returns c =
    same (rw (c.doors_word.ensures, c.stand_at.ensures, c.ground_left.ensures) (simp (append_assoc, append-nil))) c.put_heading.ensures
