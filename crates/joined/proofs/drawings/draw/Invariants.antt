-- `joined::drawings::draw` meets its contract: after i turns the floats of the first i cylinders stand in front, and the rest is as it was.
-- Assumes nothing.
use Rattle.std.proofs.Common.{◌≡◌, ◌*◌, take, drop}
use Rattle.joined.specs.Drawn.{floats_of}
use Rattle.joined.proofs.drawings.draw.Given as goal

abbrev pub invariant-loop-i : goal.invariant-loop-i
invariant-loop-i l =
    (take (2 * l.i) l.out ≡ floats_of (take l.i l.fn.cylinders)) × (drop (2 * l.i) l.out ≡ drop (2 * l.i) l.initial.out)
