-- `joined::sensors::three_each` meets its contract: after i turns the first i sensors stand in front, three times each.
-- Assumes nothing.
use Rattle.std.proofs.Common.{◌≡◌, ◌*◌, length, take}
use Rattle.controller.specs.Samples.{agreeing}
use Rattle.joined.proofs.sensors.three_each.Given as goal

abbrev pub invariant-loop-i : goal.invariant-loop-i
invariant-loop-i l = (length l.sample ≡ 54) × (take (3 * l.i) l.sample ≡ agreeing (take l.i l.fn.sensors))
