-- `chart::csv::put_place` meets its contract: the doors, and the gears, each with their number.
-- Assumes nothing.
use Rattle.chart.proofs.Fields.{place_text}
use Rattle.texts.proofs.Lines.{same, and}
use Rattle.chart.proofs.csv.put_place.Goals as goal

pub returns : goal.returns
returns c =
    let doors = rw (c.doors_word.ensures, c.number.ensures) at c.put_numbered.ensures in
    let gears = rw (c.gears_word.ensures, c.number-2.ensures) at c.put_numbered-2.ensures in
    same (place_text c.args.place) (and doors gears)
