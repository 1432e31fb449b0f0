-- `chart::headings::put_ground` meets its contract: the handle, what the sequence does, the four columns, the row.
-- Assumes nothing.
use Rattle.std.proofs.Common.{arith, add-zero}
use mathlib.Core.List.{append_assoc}
use Rattle.texts.proofs.Lines.{same, and}
use Rattle.chart.specs.Headings.{ground_headings_text}
use Rattle.chart.proofs.Turns.{start, turn, end, four}
use Rattle.chart.proofs.headings.put_ground.Goals as goal

pub loop-i-init : goal.loop-i-init
loop-i-init c = start _

pub loop-i-preserved : goal.loop-i-preserved
loop-i-preserved c = turn _ c.loop-i.invariant c.put_ground_column.ensures

pub returns : goal.returns
unfolding ground_headings_text
returns c =
    let columns = same (four _) (end _ (omega arith) c.loop-i.invariant) in
    same (simp (append_assoc, add-zero)) (and (and (and c.put_ground_handle.ensures c.put_acts.ensures) columns) c.put_ground_row.ensures)
