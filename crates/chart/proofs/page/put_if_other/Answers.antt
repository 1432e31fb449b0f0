-- `chart::page::put_if_other` meets its contract: the place where it differs on ground, and else nothing.
-- Assumes nothing.
use Rattle.chart.specs.Page.{ground_text}
use Rattle.chart.proofs.Differing.{some_differs}
use Rattle.texts.proofs.Lines.{nothing}
use Rattle.chart.proofs.page.put_if_other.Goals as goal

pub returns-then-differs : goal.returns-then-differs
unfolding ground_text
returns-then-differs c =
    rw (← some_differs, ← c.differs.ensures, c.if-differs.true) (rw c.ground_left.ensures at c.put_place.ensures)

pub returns-else-differs : goal.returns-else-differs
unfolding ground_text
returns-else-differs c = rw (← some_differs, ← c.differs.ensures, c.if-differs.false) nothing
