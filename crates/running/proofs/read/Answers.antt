-- `running::read` meets its contract: so many bytes as `read` answered, which lie in the input buffer, or none.
-- Assumes nothing.
use Rattle.std.proofs.Common.{ap, rules}
use Rattle.std.specs.Prelude.{Some}
use Rattle.running.specs.Loops.AfterRead.{answers}
use borrow.Author.Rules.{rules}
use Rattle.running.proofs.read.Goals as goal

pub returns-in-Ok : goal.returns-in-Ok
returns-in-Ok g c = answers _ (search rules) (ap (λ (p : _). Some p) c.read-in-Ok.ensures)
