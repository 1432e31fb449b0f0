-- `chart::csv::put_asked` meets its contract: the fields of the ground, of the handle, of doors and gears, and of the facts.
-- Assumes nothing.
use Rattle.chart.proofs.Fields.{asked_text}
use Rattle.texts.proofs.Lines.{same, and}
use Rattle.chart.proofs.csv.put_asked.Goals as goal

pub returns : goal.returns
returns c =
    let handle = rw (c.handle_word.ensures, c.number.ensures) at c.put_numbered.ensures in
    let facts = and c.put_fact-2.ensures (and c.put_fact-3.ensures (and c.put_fact-4.ensures c.put_fact-5.ensures)) in
    same (asked_text c.args.asked) (and c.put_fact.ensures (and handle (and c.put_place.ensures facts)))
