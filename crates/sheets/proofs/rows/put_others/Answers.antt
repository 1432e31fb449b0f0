-- `sheets::rows::put_others` meets its contract: the lamps' names and the sensors', each behind a comma.
-- Assumes nothing.
use Rattle.texts.proofs.Lines.{put, and}
use Rattle.sheets.specs.Sheets.{other_names}
use Rattle.sheets.proofs.rows.put_others.Goals as goal

pub returns : goal.returns
unfolding other_names
returns c = and (and (and (put c.put.ensures) (put c.put_all.ensures)) (put c.put-2.ensures)) (put c.put_all-2.ensures)
