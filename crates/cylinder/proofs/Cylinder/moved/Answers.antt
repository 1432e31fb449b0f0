-- `cylinder::Cylinder::moved` meets its contract: a position that is taken is on the stroke, so it fits.
-- Assumes nothing.
use mir.Facts.{Fits-below}
use Rattle.cylinder.specs.Fractions.{stroke}
use Rattle.cylinder.proofs.Taken.{result_at_most}
use Rattle.cylinder.proofs.Cylinder.moved.Goals as goal

pub overflow_cast-k : goal.overflow_cast-k
overflow_cast-k c = Fits-below tt (result_at_most 0 stroke _ c.parts_of.ensures c.ok_or.ensures.ok_part c.in_ok-k.was)
