-- `chart::page::put_ground` meets its contract: the headings, and after k turns what is shown of the first k places on ground.
-- Assumes nothing.
use Rattle.texts.specs.Lines.{PutsIfRoom}
use Rattle.chart.specs.Page.{ground_text}
use Rattle.chart.proofs.Turns.{so_far}
use Rattle.chart.proofs.page.put_ground.Given as goal

abbrev pub invariant-loop-k : goal.invariant-loop-k
invariant-loop-k l = PutsIfRoom (so_far ground_text l.k) l.initial.text l.text
