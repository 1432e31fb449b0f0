-- `chart::headings::put_ground_row` meets its contract: what the word is of, and the word of the place's gears.
-- Assumes nothing.
use mathlib.Core.List.{append_assoc, append-nil}
use Rattle.chart.specs.Headings.{ground_row_text}
use Rattle.texts.proofs.Lines.{same, and}
use Rattle.chart.proofs.headings.put_ground_row.Goals as goal

pub returns : goal.returns
unfolding ground_row_text
returns c =
    same (rw (c.gears_word-word.ensures, c.stand_at.ensures) (simp (append_assoc, append-nil))) (and c.put_heading.ensures c.put_heading-2.ensures)
