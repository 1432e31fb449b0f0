-- Request K8: computed lessons of the joined rig. The law that red never lights is not empty, and its rates are no lower. The rules compute, and so
-- do the floats.
-- Assumes nothing.
use mathlib.Core.Path.{refl}
use Rattle.common.specs.Case.{AllAsWanted}
use Rattle.joined.proofs.Computing.{rules}
use Rattle.hydraulics.specs.Inputs.{after}
use Rattle.witnesses.specs.Rigs.{steps_from, shown_of, ends, up_and_down, rig_cases}

pub rigs_as_worked : AllAsWanted rig_cases
unfolding rules after steps_from shown_of ends up_and_down rig_cases
rigs_as_worked = refl
