-- `commands::messages::put_rule` meets its contract: the refusal, and its name.
-- Assumes nothing.
use Rattle.texts.proofs.Lines.{put, and}
use Rattle.commands.proofs.messages.put_rule.Goals as goal

pub returns : goal.returns
returns c = and (put c.put.ensures) (put c.put_rule.ensures)
