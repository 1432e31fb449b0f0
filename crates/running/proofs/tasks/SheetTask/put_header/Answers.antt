-- `running::tasks::Sheet::put_header` meets its contract: the header fits, and is put in front.
-- Assumes nothing.
use Rattle.std.proofs.Common.{arith}
use borrow.Author.Rules.{rules}
use Rattle.sheets.specs.Sheets.{sheet_header}
use Rattle.running.proofs.Headers.{sheet_header_fits, told_put}
use Rattle.running.proofs.tasks.SheetTask.put_header.Goals as goal

pub returns : goal.returns
returns c = told_put _ _ _ sheet_header (omega (arith, sheet_header_fits, c.requires)) (search rules)
