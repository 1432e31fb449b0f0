-- `chart::page::put_ground` meets its contract: the headings, and after k turns what is shown of the first k places on ground.
-- Assumes nothing.
use Rattle.std.proofs.Common.{arith}
use Rattle.texts.proofs.Lines.{and}
use Rattle.chart.specs.Page.{ground_text, ground_part}
use Rattle.chart.proofs.Turns.{start, turn, end}
use Rattle.chart.proofs.page.put_ground.Goals as goal

pub loop-k-init : goal.loop-k-init
loop-k-init c = start ground_text

pub loop-k-preserved : goal.loop-k-preserved
loop-k-preserved c = turn ground_text c.loop-k.invariant c.put_if_other.ensures

pub returns : goal.returns
unfolding ground_part
returns c = and c.put_ground.ensures (end ground_text (omega arith) c.loop-k.invariant)
