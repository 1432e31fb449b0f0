-- `plain::parts::rest_name` meets its contract: each by its place.
-- Assumes nothing.
use Rattle.std.proofs.Common.{arith}
use Rattle.plain.specs.Parts.{rest_names}
use Rattle.plain.proofs.Named.{past_rest}
use Rattle.plain.proofs.parts.rest_name.Goals as goal

pub returns-in-0 : goal.returns-in-0
unfolding rest_names
returns-in-0 c = rw c.in-0.is

pub returns-in-1 : goal.returns-in-1
unfolding rest_names
returns-in-1 c = rw c.in-1.is

pub returns-in-2 : goal.returns-in-2
unfolding rest_names
returns-in-2 c = rw c.in-2.is

pub returns-in-3 : goal.returns-in-3
unfolding rest_names
returns-in-3 c = rw c.in-3.is

pub returns-in_default : goal.returns-in_default
returns-in_default c = past_rest c.args.j (omega arith)
