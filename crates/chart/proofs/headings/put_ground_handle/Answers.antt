-- `chart::headings::put_ground_handle` meets its contract: the word of the handle in capitals, and what stands around it.
-- Assumes nothing.
use mathlib.Core.List.{append_assoc, append-nil}
use Rattle.chart.specs.Headings.{ground_handle_text}
use Rattle.texts.proofs.Lines.{same}
use Rattle.chart.proofs.headings.put_ground_handle.Goals as goal

pub returns : goal.returns
unfolding ground_handle_text
returns c =
    same (rw (c.capitals.ensures, c.stand_at.ensures) (simp (append_assoc, append-nil))) c.put_heading.ensures
