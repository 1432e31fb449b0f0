-- `chart::headings::put_headings` meets its contract: the handle, the four columns, the four rows.
-- Assumes nothing.
use Rattle.std.proofs.Common.{arith, add-zero}
use mathlib.Core.List.{append_assoc}
use Rattle.texts.proofs.Lines.{same, and}
use Rattle.chart.specs.Headings.{headings_text}
use Rattle.chart.proofs.Turns.{start, turn, end, four}
use Rattle.chart.proofs.headings.put_headings.Goals as goal

pub loop-i-init : goal.loop-i-init
loop-i-init c = start _

pub loop-i-preserved : goal.loop-i-preserved
loop-i-preserved c = turn _ c.loop-i.invariant c.put_column.ensures

pub loop-i-2-init : goal.loop-i-2-init
loop-i-2-init c = start _

pub loop-i-2-preserved : goal.loop-i-2-preserved
loop-i-2-preserved c = turn _ c.loop-i-2.invariant c.put_row.ensures

pub returns : goal.returns
unfolding headings_text
returns c =
    let columns = same (four _) (end _ (omega arith) c.loop-i.invariant) in
    let rows = same (four _) (end _ (omega arith) c.loop-i-2.invariant) in
    same (simp (append_assoc, add-zero)) (and (and (and c.put_handle.ensures c.put_aim.ensures) columns) rows)
