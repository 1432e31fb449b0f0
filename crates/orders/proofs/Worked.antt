-- Ages stop at 60,000 as document 01 says: the rule computes.
-- Assumes nothing.
use mathlib.Core.Path.{refl}
use Rattle.common.specs.Case.{AllAsWanted}
use Rattle.orders.specs.Timing.{grown_age}
use Rattle.orders.specs.Cases.{age_cases}

pub ages_stop_at_60000 : AllAsWanted age_cases
unfolding age_cases grown_age
ages_stop_at_60000 = refl
