-- `image::rules::tests` meets its contract: the rules one after the other.
-- Assumes nothing.
use Rattle.voter.specs.Counts.{count_rules}
use Rattle.controller.specs.Stages.{anomaly}
use Rattle.image.specs.Rules.{rules}
use Rattle.image.proofs.rules.tests.Goals as goal

pub returns : goal.returns
unfolding anomaly rules count_rules
returns c =
    rw (c.all_keep-3.ensures, c.all_keep-2.ensures, c.all_keep.ensures, c.invalid.ensures, c.are_closed.ensures, c.moving_have_open.ensures, c.at-wanted.ensures)
