-- `chart::headings::put_handle` meets its contract: the word of the handle in capitals, behind what stands before it.
-- Assumes nothing.
use mathlib.Core.List.{append_assoc, append-nil}
use Rattle.chart.specs.Headings.{handle_text}
use Rattle.texts.proofs.Lines.{same}
use Rattle.chart.proofs.headings.put_handle.Goals as goal

pub returns : goal.returns
unfolding handle_text
returns c =
    same (rw (c.capitals.ensures, c.stand_at.ensures, c.top.ensures) (simp (append_assoc, append-nil))) c.put_heading.ensures
