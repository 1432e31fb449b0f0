-- `chart::csv::put_all` meets its contract: the header, and after n turns the rows of the first n entries.
-- Assumes nothing.
use Rattle.texts.specs.Lines.{PutsIfRoom}
use Rattle.chart.specs.Csv.{csv_row}
use Rattle.chart.proofs.Turns.{so_far}
use Rattle.chart.proofs.csv.put_all.Given as goal

abbrev pub invariant-loop-n : goal.invariant-loop-n
invariant-loop-n l = PutsIfRoom (so_far csv_row l.n) l.initial.text l.text
