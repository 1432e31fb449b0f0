-- `chart::page::put_numbers` meets its contract: the two numbers, and what stands around them.
-- Assumes nothing.
use Rattle.chart.specs.Page.{numbers_text}
use Rattle.texts.proofs.Lines.{put, and}
use Rattle.chart.proofs.page.put_numbers.Goals as goal

pub returns : goal.returns
unfolding numbers_text
returns c = and (and (and (and (put c.put.ensures) (put c.put_number.ensures)) (put c.put-2.ensures)) (put c.put_number-2.ensures)) (put c.put-3.ensures)
