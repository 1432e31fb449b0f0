-- `chart::page::put_place` meets its contract: its frame, its numbers, and what comes next.
-- Assumes nothing.
use Rattle.chart.specs.Page.{place_text}
use Rattle.texts.proofs.Lines.{put, and}
use Rattle.chart.proofs.page.put_place.Goals as goal

pub returns : goal.returns
unfolding place_text
returns c =
    rw (← c.stand_at-asked.ensures, ← c.decisive-fact.ensures, ← c.moving_have_open.ensures, ← c.next_with.ensures)
    (and (and (and (and (and c.put_frame.ensures c.put_numbers.ensures) c.put_when.ensures) c.put_next.ensures) c.put_else.ensures) (put c.put.ensures))
