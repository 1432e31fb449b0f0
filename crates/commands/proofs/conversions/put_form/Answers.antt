-- `commands::conversions::put_form` meets its contract: by the form.
-- Assumes nothing.
use Rattle.texts.proofs.Lines.{put}
use Rattle.commands.proofs.conversions.put_form.Goals as goal

pub returns-in-New : goal.returns-in-New
returns-in-New c =
    rw c.in-New.is (put c.put.ensures)

pub returns-in-Old : goal.returns-in-Old
returns-in-Old c =
    rw c.in-Old.is (put c.put-in-Old.ensures)
