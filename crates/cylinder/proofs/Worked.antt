-- The worked cases of one cylinder give what is wanted.
-- Assumes nothing.
use Rattle.std.proofs.Common.{refl}
use lib.Ieee.{round, of_bits}
use Rattle.common.specs.Case.{AllAsWanted}
use Rattle.cylinder.specs.Fractions.{fraction, parts_of, parts_from}
use Rattle.cylinder.specs.Moves.{cylinder_at, moved}
use Rattle.cylinder.specs.Cases.{with_bits, parts_shown, as_position, as_rate, taken_cases, refused_cases, answer_shown, handed_in, after, at_four, at_sixteen, move_cases, cylinder_cases}

pub as_worked : AllAsWanted cylinder_cases
unfolding round of_bits fraction parts_of parts_from cylinder_at moved with_bits parts_shown as_position as_rate taken_cases refused_cases answer_shown handed_in after at_four at_sixteen move_cases cylinder_cases
as_worked = refl
