-- What a computed run opens here: `unfolding runs` opens every rule of a step and the samples of the runs. Only worked cases and
-- computed runs do so.
-- Assumes nothing.
use Rattle.controller.specs.Samples.{after}
use Rattle.controller.proofs.Computing.{rules}
use Rattle.laws.specs.Evenly.{evenly}
use Rattle.laws.specs.Lesson.{retraction, extension, lesson, lesson_lines, broken_switch}
use Rattle.laws.specs.Wheels.{up_with, wheels, wheels_lines}

unfoldable pub runs : Unit {0}
unfolding rules after evenly retraction extension lesson lesson_lines broken_switch up_with wheels wheels_lines
runs = tt
