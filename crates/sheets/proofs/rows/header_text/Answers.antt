-- `sheets::rows::header_text` meets its contract: `time`, the names, and the end.
-- Assumes nothing.
use Rattle.texts.proofs.Lines.{put, and, same}
use Rattle.sheets.proofs.Fields.{header_parts}
use Rattle.sheets.proofs.rows.header_text.Goals as goal

pub returns : goal.returns
returns c = same header_parts (and (and (and (put c.put.ensures) (put c.put_all.ensures)) c.put_others.ensures) (put c.put-2.ensures))
