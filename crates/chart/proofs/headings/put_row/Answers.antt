-- `chart::headings::put_row` meets its contract: what the word is of, and the word of the place's doors.
-- Assumes nothing.
use mathlib.Core.List.{append_assoc, append-nil}
use Rattle.chart.specs.Headings.{row_text}
use Rattle.texts.proofs.Lines.{same, and}
use Rattle.chart.proofs.headings.put_row.Goals as goal

pub returns : goal.returns
unfolding row_text
returns c =
    same (rw (c.doors_word-word.ensures, c.stand_at.ensures, c.top.ensures, c.top-2.ensures) (simp (append_assoc, append-nil))) (and c.put_heading.ensures c.put_heading-2.ensures)
