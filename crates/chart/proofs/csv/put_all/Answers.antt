-- `chart::csv::put_all` meets its contract: the header, and after n turns the rows of the first n entries.
-- Assumes nothing.
use Rattle.std.proofs.Common.{arith}
use Rattle.common.specs.Ascii.{joined_by_commas}
use Rattle.texts.proofs.Lines.{put, and}
use Rattle.chart.specs.Csv.{csv_header, csv_row, csv_text}
use Rattle.chart.proofs.Turns.{start, turn, end}
use Rattle.chart.proofs.csv.put_all.Goals as goal

pub loop-n-init : goal.loop-n-init
loop-n-init c = start csv_row

pub loop-n-preserved : goal.loop-n-preserved
loop-n-preserved c = turn csv_row c.loop-n.invariant c.put_row.ensures

pub returns : goal.returns
unfolding joined_by_commas csv_header csv_text
returns c = and (put c.put.ensures) (end csv_row (omega arith) c.loop-n.invariant)
