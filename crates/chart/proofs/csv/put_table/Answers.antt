-- `chart::csv::put_table` meets its contract: where there is room for the text, and where there is none.
-- Assumes nothing.
use Rattle.std.proofs.Common.{sym, ◌∙◌, arith}
use borrow.Author.Tests.{leb-true, leb-false}
use Rattle.texts.proofs.Lines.{no_room, as_put}
use Rattle.chart.proofs.Lengths.{csv_length}
use Rattle.chart.proofs.csv.put_table.Goals as goal

pub returns-then-has_room : goal.returns-then-has_room
returns-then-has_room c =
    let room = leb-true _ _ (sym c.has_room.ensures ∙ c.if-has_room.true) in
    as_put (omega (arith, csv_length, room)) c.put_all.ensures

pub returns-else-has_room : goal.returns-else-has_room
returns-else-has_room c =
    let room = leb-false _ _ (sym c.has_room.ensures ∙ c.if-has_room.false) in
    no_room _ (omega (arith, csv_length, room))
