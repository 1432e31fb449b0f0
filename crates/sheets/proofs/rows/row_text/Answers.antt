-- `sheets::rows::row_text` meets its contract: the time, the fields behind it and the end, each after the one before.
-- Assumes nothing.
use Rattle.texts.proofs.Lines.{put, and, same}
use Rattle.sheets.proofs.Fields.{row_parts}
use Rattle.sheets.proofs.rows.row_text.Goals as goal

pub returns : goal.returns
returns c = same (row_parts c.args.time c.args.values) (and (and (put c.put_number.ensures) c.put_fields.ensures) (put c.put.ensures))
