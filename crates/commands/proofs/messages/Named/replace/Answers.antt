-- `commands::messages::Named::replace` meets its contract: only what loading takes is put there.
-- Assumes nothing.
use Rattle.std.proofs.Common.{sym, ap}
use Rattle.controller.specs.Answers.{Answer}
use Rattle.controller.specs.Start.{fresh_of}
use Rattle.image.specs.Images.{load_of}
use Rattle.commands.proofs.messages.Named.replace.Goals as goal

pub returns-then-may_replace : goal.returns-then-may_replace
unfolding load_of
returns-then-may_replace g c = λ t. sym (ap (λ (a : Answer). a.refusal) (c.in-Ok.ensures (fresh_of 0)))
