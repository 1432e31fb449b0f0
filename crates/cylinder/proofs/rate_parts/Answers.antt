-- `cylinder::rate_parts` meets its contract: its range lies within the positions'.
-- Assumes nothing.
use Rattle.std.proofs.Common.{◌∙◌, lit≤}
use Rattle.cylinder.specs.Moves.{fastest}
use Rattle.cylinder.proofs.Taken.{narrowed}
use Rattle.cylinder.proofs.rate_parts.Goals as goal

pub returns : goal.returns
returns c = c.parts_within.ensures ∙ narrowed 1 fastest c.args.x (lit≤ tt)
