-- Of what comes to nothing nothing is written.
-- Assumes nothing.
use mathlib.Core.List.{[]}
use mathlib.Core.Path.{◌≡◌, refl}
use Rattle.controller.specs.declared.State.{State}
use Rattle.reading.specs.declared.Came.TheVariants.{Nothing}
use Rattle.lesson.specs.Replay.{text_told}

pub quiet : (a : Unit {0}) (before after : State) → text_told a before Nothing after ≡ (a, [])
quiet a before after = refl
