-- `chart::page::put_air` meets its contract: the headings of both handles, and after k turns the first k places.
-- Assumes nothing.
use Rattle.std.proofs.Common.{arith}
use Rattle.texts.proofs.Lines.{and}
use Rattle.chart.specs.Page.{air_text, air_part}
use Rattle.chart.proofs.Turns.{start, turn, end}
use Rattle.chart.proofs.page.put_air.Goals as goal

pub loop-k-init : goal.loop-k-init
loop-k-init c = start air_text

pub loop-k-preserved : goal.loop-k-preserved
unfolding air_text
loop-k-preserved c = turn air_text c.loop-k.invariant (rw (c.top.ensures, c.left.ensures) at c.put_place.ensures)

pub returns : goal.returns
unfolding air_part
returns c = and (and c.put_headings.ensures c.put_headings-2.ensures) (end air_text (omega arith) c.loop-k.invariant)
