-- `chart::page::put_next` meets its contract: that the place stays, or the doors and the gears.
-- Assumes nothing.
use Rattle.std.proofs.Common.{sym, ◌∙◌}
use Rattle.chart.specs.Page.{parts_text, next_text}
use Rattle.chart.proofs.Differing.{same_doors, same_gears, same_place}
use Rattle.texts.proofs.Lines.{same, put, and}
use Rattle.chart.proofs.page.put_next.Goals as goal

pub returns-then-eq : goal.returns-then-eq
unfolding next_text
returns-then-eq c =
    let stays = sym (same_place c.args.from c.args.to) ∙ sym c.eq.ensures ∙ c.if-eq.true in
    rw stays (put c.put.ensures)

pub returns : goal.returns
unfolding next_text parts_text
returns c =
    let moves = sym (same_place c.args.from c.args.to) ∙ sym c.eq.ensures ∙ c.if-eq.false in
    let doors = rw (c.eq-2.ensures, same_doors c.args.from c.args.to) at c.put_begin.ensures in
    let gears = rw (c.eq-3.ensures, same_gears c.args.from c.args.to) at c.put_begin-2.ensures in
    let doors_word = same c.doors_word.ensures (put c.put-2.ensures) in
    let gears_word = same c.gears_word.ensures (put c.put-4.ensures) in
    rw moves (and (and (and (and (and doors doors_word) (put c.put-3.ensures)) gears) gears_word) (put c.put-5.ensures))
