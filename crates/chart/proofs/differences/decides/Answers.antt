-- `chart::differences::decides` meets its contract: what comes next with the fact alone and with none are compared.
-- Assumes nothing.
use Rattle.std.proofs.Common.{◌∙◌, ap}
use mathlib.Core.Bool.{not}
use Rattle.chart.specs.Differences.{decides}
use Rattle.chart.proofs.Differing.{same_place}
use Rattle.chart.proofs.differences.decides.Goals as goal

pub returns : goal.returns
unfolding decides
returns c =
    rw (← c.next_with.ensures, ← c.next_with-2.ensures) (c.ne.ensures ∙ ap not (same_place _ _))
