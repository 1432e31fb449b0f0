-- `chart::csv::put_fact` meets its contract: the comma, and the byte that `on_off` promises.
-- Assumes nothing.
use Rattle.texts.proofs.Lines.{put}
use Rattle.chart.proofs.csv.put_fact.Goals as goal

pub returns : goal.returns
returns c = rw c.on_off.ensures at (put c.put.ensures)
