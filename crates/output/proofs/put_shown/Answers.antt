-- `output::put_shown` meets its contract: the orders, the doors, a comma, the gears and the lights, each after the one before.
-- Assumes nothing.
use Rattle.texts.proofs.Lines.{same, put, and}
use Rattle.output.proofs.Texts.{shown_text}
use Rattle.output.proofs.put_shown.Goals as goal

pub returns : goal.returns
returns c =
    let first = same c.orders_piece.ensures (put c.put.ensures) in
    let last = same c.lights_piece.ensures (put c.put-5.ensures) in
    same (shown_text c.args.shown)
    (and (and (and (and first (same c.doors_word.ensures (put c.put-2.ensures))) (put c.put-3.ensures)) (same c.gears_word.ensures (put c.put-4.ensures))) last)
