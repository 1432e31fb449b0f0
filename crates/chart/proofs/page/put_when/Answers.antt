-- `chart::page::put_when` meets its contract: the word, and what stands around it.
-- Assumes nothing.
use Rattle.chart.specs.Page.{when_text}
use Rattle.texts.proofs.Lines.{same, put, and}
use Rattle.chart.proofs.page.put_when.Goals as goal

pub returns : goal.returns
unfolding when_text
returns c = and (and (put c.put.ensures) (same c.when_word.ensures (put c.put-2.ensures))) (put c.put-3.ensures)
