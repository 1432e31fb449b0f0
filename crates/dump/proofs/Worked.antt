-- Request K2, worked: a time at which nothing changes is not written, and the last time below 2 ^ 64 is. By computing it.
-- Assumes nothing.
use mathlib.Core.List.{[], ◌∷◌}
use mathlib.Core.Path.{refl}
use Rattle.common.specs.Case.{AllAsWanted}
use Rattle.common.specs.Decimal.{decimal, decimal_up_to}
use Rattle.dump.specs.Dumps.{changes_from, moment_text, later_text}
use Rattle.dump.specs.SessionS.{lines_of}
use Rattle.dump.specs.Cases.{values_in, at, last_time}

pub last_time_as_wanted : AllAsWanted (last_time ∷ [])
unfolding decimal decimal_up_to changes_from moment_text later_text lines_of values_in at last_time
last_time_as_wanted = refl
