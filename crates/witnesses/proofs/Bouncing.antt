-- Request K7: with the handle held up for as long as the bound of demand 3 and absorbers that bounce, it neither settles nor lights red. The
-- rules compute.
-- Assumes nothing.
use lib.Dec.{lit≤}
use Rattle.laws.specs.Bounds.{bound_for}
use Rattle.laws.proofs.Computing.{runs}
use Rattle.settling.specs.Runs.{is_taken, handle_says, elapsed_in, elapsed_since}
use Rattle.settling.specs.Settled.{settled, settled_on}
use Rattle.witnesses.specs.Bouncing.{hops, bouncing, never_settles, NeverSettlesInTheBound}

-- 250 samples, of 24,900 ms.
pub absorbers_that_bounce_need_not_settle : NeverSettlesInTheBound bouncing
unfolding runs bound_for is_taken handle_says elapsed_in elapsed_since settled settled_on hops bouncing never_settles
absorbers_that_bounce_need_not_settle = (tt, lit≤ tt)
