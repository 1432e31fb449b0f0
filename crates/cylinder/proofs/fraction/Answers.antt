-- `cylinder::fraction` meets its contract: a number of 16 bits as a float, divided by 16384, is the float for so many parts.
-- Assumes nothing.
use Rattle.std.proofs.Common.{rules}
use Rattle.cylinder.proofs.Exact.{divided}
use borrow.Author.Rules.{rules}
use Rattle.cylinder.proofs.fraction.Goals as goal

pub returns : goal.returns
returns c = divided c.args.parts (search rules)
