-- `chart::page::put_all` meets its contract: the head, the places in the air and on ground, the table's number, and the notes.
-- Assumes nothing.
use Rattle.chart.specs.Page.{lines, head_lines, tail_lines, table_text, page_text}
use Rattle.texts.proofs.Lines.{put, and}
use Rattle.chart.proofs.page.put_all.Goals as goal

pub returns : goal.returns
unfolding lines head_lines tail_lines table_text page_text
returns c =
    let number = rw c.table_number.ensures at (put c.put_number.ensures) in
    let table = and (and (put c.put-2.ensures) number) (put c.put-3.ensures) in
    and (and (and (and (put c.put.ensures) c.put_air.ensures) c.put_ground.ensures) table) (put c.put-4.ensures)
