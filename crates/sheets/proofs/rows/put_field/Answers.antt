-- `sheets::rows::put_field` meets its contract: two bytes.
-- Assumes nothing.
use Rattle.texts.proofs.Lines.{put, same}
use Rattle.sheets.proofs.rows.put_field.Goals as goal

pub returns : goal.returns
returns c = same (simp c.on_off.ensures) (put c.put.ensures)
