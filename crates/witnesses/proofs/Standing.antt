-- Request K7: a run that demand 3 speaks of is settled with doors CLOSED and gears EXTENDED on ground, and in no other way. The rules compute.
-- Assumes nothing.
use lib.Dec.{lit≤}
use Rattle.laws.specs.Bounds.{bound_for}
use Rattle.laws.proofs.Computing.{runs}
use Rattle.settling.specs.Runs.{is_taken, handle_says, absorbers_say, held_as, held, elapsed_in, elapsed_since}
use Rattle.settling.specs.Settled.{settled, settled_on}
use Rattle.witnesses.specs.Standing.{standing, SettledOnItsWheels}

-- 249 samples, of 24,800 ms.
pub standing_counts_as_settled : SettledOnItsWheels standing
unfolding runs bound_for is_taken handle_says absorbers_say held_as held elapsed_in elapsed_since settled settled_on standing
standing_counts_as_settled = record { is_held = tt; is_long = lit≤ tt; not_red = tt; not_home = tt; counts = tt }
