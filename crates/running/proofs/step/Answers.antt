-- `running::step` meets its contract: by whether something is left of the part.
-- Assumes nothing.
use Rattle.std.proofs.Common.{refl, arith}
use Rattle.running.proofs.step.Goals as goal

pub returns : goal.returns
returns g c =
    record {
      reads = λ h. (refl, c.in_ok-progress.ensures, refl);
      takes_in = λ h. absurd (omega (arith, c.if-at-gt0.false));
    }
