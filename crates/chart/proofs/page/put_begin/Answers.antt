-- `chart::page::put_begin` meets its contract: the class by whether they stay, and what stands around it.
-- Assumes nothing.
use Rattle.std.proofs.Common.{◌≡◌, cond, rules}
use Rattle.chart.specs.Parts.{keeps_piece, moves_piece}
use Rattle.chart.specs.Page.{part_begin}
use Rattle.texts.proofs.Lines.{same, put, and}
use Rattle.chart.proofs.page.put_begin.Goals as goal

pub returns : goal.returns
unfolding part_begin
returns c =
    let class : c.if-stays.put.now ≡ cond c.args.stays keeps_piece moves_piece = search rules in
    and (and (put c.put.ensures) (same class (put c.put-2.ensures))) (put c.put-3.ensures)
