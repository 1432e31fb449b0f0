-- `chart::page::put_frame` meets its contract: the class, the two numbers, and what stands around them.
-- Assumes nothing.
use Rattle.std.proofs.Common.{◌≡◌, cond, rules}
use Rattle.chart.specs.Parts.{possible_piece, never_piece}
use Rattle.chart.specs.Page.{frame_text}
use Rattle.texts.proofs.Lines.{same, put, and}
use Rattle.chart.proofs.page.put_frame.Goals as goal

pub returns : goal.returns
unfolding frame_text
returns c =
    let class : c.if-possible.put.now ≡ cond c.args.possible possible_piece never_piece = search rules in
    and (and (and (and (and (and (put c.put.ensures) (same class (put c.put-2.ensures))) (put c.put-3.ensures)) (put c.put_number.ensures)) (put c.put-4.ensures)) (put c.put_number-2.ensures)) (put c.put-5.ensures)
