-- `chart::headings::put_begin` meets its contract: the class, the two numbers, and what stands around them.
-- Assumes nothing.
use Rattle.chart.specs.Headings.{heading_begin}
use Rattle.texts.proofs.Lines.{put, and}
use Rattle.chart.proofs.headings.put_begin.Goals as goal

pub returns : goal.returns
unfolding heading_begin
returns c =
    and (and (and (and (and (and (put c.put.ensures) (put c.put-2.ensures)) (put c.put-3.ensures)) (put c.put_number.ensures)) (put c.put-4.ensures)) (put c.put_number-2.ensures)) (put c.put-5.ensures)
