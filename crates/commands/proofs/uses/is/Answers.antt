-- `commands::uses::is` meets its contract: byte by byte.
-- Assumes nothing.
use Rattle.std.proofs.Common.{◌∙◌}
use Rattle.trace.proofs.Texts.{same_by_bytes}
use Rattle.commands.proofs.uses.is.Goals as goal

pub returns : goal.returns
returns c = c.eq.ensures ∙ same_by_bytes c.args.word.now c.args.text.now
