-- `chart::headings::put_column` meets its contract: the word of the place's gears, behind what stands before it.
-- Assumes nothing.
use mathlib.Core.List.{append_assoc, append-nil}
use Rattle.chart.specs.Headings.{column_text}
use Rattle.texts.proofs.Lines.{same}
use Rattle.chart.proofs.headings.put_column.Goals as goal

pub returns : goal.returns
unfolding column_text
returns c =
    same (rw (c.gears_word.ensures, c.stand_at.ensures, c.left.ensures, c.top.ensures) (simp (append_assoc, append-nil))) c.put_heading.ensures
