-- Request K7: what else counts as settled is met. In this run the handle is held up and one absorber on ground; at its end, past the bound, red is
-- dark, gears are not where the handle asks, and it is settled.
-- Assumes nothing.
use Rattle.std.specs.Prelude.{true, false, not, List, ◌++◌, ◌≤◌, T, replicate}
use Rattle.sequence.specs.Moves.{aim_of}
use Rattle.controller.specs.Start.{fresh_of}
use Rattle.controller.specs.Shows.{red}
use Rattle.controller.specs.Samples.{Row, after}
use Rattle.laws.specs.Bounds.{bound}
use Rattle.laws.specs.Evenly.{evenly}
use Rattle.laws.specs.Wheels.{up_with, right}
use Rattle.settling.specs.Runs.{Absorbers, Held, elapsed_since}
use Rattle.settling.specs.Settled.{is_home, is_settled}

-- The right absorber alone.
abbrev pub on_the_right : Absorbers
on_the_right = (false, false, true)

-- The switch opens after 20,000 ms; there is no pressure, and none is asked for.
unfoldable pub standing : List Row
standing = evenly 100 0 (replicate 200 (up_with 1 right 1 0 1 0 0) ++ replicate 49 (up_with 0 right 1 0 1 0 0))

-- A run from a fresh start that is as demand 3 asks, and settled since it is on ground.
pub record SettledOnItsWheels (rows : List Row) : Type 0 where
  pub is_held : Held false on_the_right (fresh_of 0) rows
  pub is_long : bound ≤ elapsed_since (fresh_of 0) rows
  pub not_red : T (not (red (after (fresh_of 0) rows)))
  pub not_home : T (not (is_home (aim_of false) (after (fresh_of 0) rows).core.place))
  pub counts : T (is_settled false (after (fresh_of 0) rows))
