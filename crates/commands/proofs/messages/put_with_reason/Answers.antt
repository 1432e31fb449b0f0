-- `commands::messages::put_with_reason` meets its contract: what was to be done, and the reason.
-- Assumes nothing.
use Rattle.texts.proofs.Lines.{put, and}
use Rattle.commands.proofs.messages.put_with_reason.Goals as goal

pub returns : goal.returns
returns c = and (put c.put.ensures) c.put_reason.ensures
