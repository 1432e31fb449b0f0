-- `plain::lines::put_place` meets its contract: a line for the doors, and one for the gears.
-- Assumes nothing.
use Rattle.texts.proofs.Lines.{same, put, and}
use Rattle.plain.proofs.Texts.{place_text}
use Rattle.plain.proofs.lines.put_place.Goals as goal

pub returns : goal.returns
returns c =
    same (place_text c.args.place)
    (and (and (and (and (put c.put.ensures) (same c.doors_word.ensures (put c.put-2.ensures))) (put c.put-3.ensures)) (same c.gears_word.ensures (put c.put-4.ensures)))
    (put c.put-5.ensures))
