-- What a computed run of the joined rig opens: `unfolding rules` opens every rule of its step, the controller's and the cylinders' among them.
-- Only worked cases and computed runs do so.
-- Assumes nothing.
use lib.Ieee.{round}
use Rattle.controller.proofs.Computing.{rules as controller_rules}
use Rattle.cylinder.specs.Fractions.{fraction, parts_of, parts_from}
use Rattle.cylinder.specs.Moves.{is_position, is_rate, is_sound, cylinder_at, moved}
use Rattle.joined.specs.Drives.{ordered, is_bad, is_unsound, some_bad, no_given, six_moved}
use Rattle.joined.specs.Sensors.{stands_at, no_cylinder, seen_out, seen_in, sensors_of, sample_of}
use Rattle.joined.specs.Rigs.{start_cylinders, start_of, since_move, moved_at, read_at, answered_by, step_at}
use Rattle.joined.specs.Drawn.{floats_of, drawn_of}

unfoldable pub rules : Unit {0}
unfolding
    round fraction parts_of parts_from is_position is_rate is_sound cylinder_at moved
    ordered is_bad is_unsound some_bad no_given six_moved
    stands_at no_cylinder seen_out seen_in sensors_of sample_of
    start_cylinders start_of since_move moved_at read_at answered_by step_at
    floats_of drawn_of controller_rules
rules = tt
