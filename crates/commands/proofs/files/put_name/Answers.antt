-- `commands::files::put_name` meets its contract: the path, and what stands behind it.
-- Assumes nothing.
use Rattle.std.proofs.Common.{◌∙◌}
use Rattle.commands.proofs.Putting.{put, and}
use Rattle.commands.proofs.files.put_name.Goals as goal

pub returns-clause-same : goal.returns-clause-same
returns-clause-same c = c.put-2.ensures.same ∙ c.put.ensures.same

pub returns-clause-put : goal.returns-clause-put
returns-clause-put c = and (put c.put.ensures.put) (put c.put-2.ensures.put)
