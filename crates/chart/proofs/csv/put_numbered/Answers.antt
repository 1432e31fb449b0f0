-- `chart::csv::put_numbered` meets its contract: a comma, the word, a comma, and the number.
-- Assumes nothing.
use Rattle.common.specs.Ascii.{joined_by_commas}
use Rattle.texts.proofs.Lines.{put, and}
use Rattle.chart.proofs.csv.put_numbered.Goals as goal

pub returns : goal.returns
unfolding joined_by_commas
returns c = and (put c.put.ensures) (and (put c.put-2.ensures) (and (put c.put-3.ensures) (put c.put_number.ensures)))
