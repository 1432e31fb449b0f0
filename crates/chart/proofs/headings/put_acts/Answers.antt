-- `chart::headings::put_acts` meets its contract: the word of the place's gears, and what stands around it.
-- Assumes nothing.
use mathlib.Core.List.{append_assoc, append-nil}
use Rattle.chart.specs.Headings.{acts_text}
use Rattle.texts.proofs.Lines.{same}
use Rattle.chart.proofs.headings.put_acts.Goals as goal

pub returns : goal.returns
unfolding acts_text
returns c =
    same (rw (c.gears_word.ensures, c.stand_at.ensures) (simp (append_assoc, append-nil))) c.put_heading.ensures
