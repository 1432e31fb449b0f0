-- `chart::csv::put_row` meets its contract: its number, what is asked, what comes next, whether it is possible, and its end.
-- Assumes nothing.
use Rattle.chart.proofs.Fields.{row_text_lem}
use Rattle.texts.proofs.Lines.{same, put, and}
use Rattle.chart.proofs.csv.put_row.Goals as goal

pub returns : goal.returns
returns c =
    same (row_text_lem c.args.n _ _ _ c.numbered-asked.ensures c.next.ensures c.moving_have_open.ensures)
    (and (and (and (and (put c.put_number.ensures) c.put_asked.ensures) c.put_place.ensures) c.put_fact.ensures) (put c.put.ensures))
