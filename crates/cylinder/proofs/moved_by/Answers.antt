-- `cylinder::moved_by` meets its contract: a rate that is taken is at most the fastest, and a position on the stroke, so each fits.
-- Assumes nothing.
use mir.Facts.{Fits-below}
use Rattle.cylinder.specs.Fractions.{stroke}
use Rattle.cylinder.specs.Moves.{fastest}
use Rattle.cylinder.proofs.Taken.{result_at_most}
use Rattle.cylinder.proofs.moved_by.Goals as goal

pub overflow_cast-n : goal.overflow_cast-n
overflow_cast-n c = Fits-below tt (result_at_most 1 fastest _ c.rate_parts.ensures c.ok_or.ensures.ok_part c.in_ok-n-in-Out.was)

pub overflow_cast-n-in-In : goal.overflow_cast-n-in-In
overflow_cast-n-in-In c =
    Fits-below tt (result_at_most 1 fastest _ c.rate_parts-in-In.ensures c.ok_or-in-In.ensures.ok_part c.in_ok-n-in-In.was)

pub overflow_cast-p : goal.overflow_cast-p
overflow_cast-p c =
    Fits-below tt (result_at_most 0 stroke _ c.parts_of.ensures c.ok_or-in-Stuck.ensures.ok_part c.in_ok-p-in-Stuck.was)
