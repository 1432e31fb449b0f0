-- `plain::parts::sensor_part` meets its contract: each by its place.
-- Assumes nothing.
use Rattle.std.proofs.Common.{◌≡◌, arith}
use Rattle.plain.specs.Parts.{sensor_parts}
use Rattle.plain.proofs.parts.sensor_part.Goals as goal

pub returns-in-0 : goal.returns-in-0
unfolding sensor_parts
returns-in-0 c = rw c.in-0.is

pub returns-in-1 : goal.returns-in-1
unfolding sensor_parts
returns-in-1 c = rw c.in-1.is

pub returns-in-2 : goal.returns-in-2
unfolding sensor_parts
returns-in-2 c = rw c.in-2.is

pub returns-in_default : goal.returns-in_default
unfolding sensor_parts
returns-in_default c = let last : c.args.k ≡ 3 = omega arith in rw last
