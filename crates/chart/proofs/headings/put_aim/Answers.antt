-- `chart::headings::put_aim` meets its contract: the word of the gears that are at the aim, behind what stands before it.
-- Assumes nothing.
use mathlib.Core.List.{append_assoc, append-nil}
use Rattle.chart.specs.Headings.{aim_text}
use Rattle.texts.proofs.Lines.{same}
use Rattle.chart.proofs.headings.put_aim.Goals as goal

pub returns : goal.returns
unfolding aim_text
returns c =
    same (rw (c.gears_word.ensures, c.aimed.ensures, c.stand_at.ensures, c.top.ensures) (simp (append_assoc, append-nil))) c.put_heading.ensures
