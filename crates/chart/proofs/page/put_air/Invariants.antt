-- `chart::page::put_air` meets its contract: the headings of both handles, and after k turns the first k places.
-- Assumes nothing.
use Rattle.texts.specs.Lines.{PutsIfRoom}
use Rattle.chart.specs.Page.{air_text}
use Rattle.chart.proofs.Turns.{so_far}
use Rattle.chart.proofs.page.put_air.Given as goal

abbrev pub invariant-loop-k : goal.invariant-loop-k
invariant-loop-k l = PutsIfRoom (so_far air_text l.k) l.initial.text l.text
