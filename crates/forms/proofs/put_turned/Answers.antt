-- `forms::put_turned` meets its contract: the stamp, the sensors, and the rest.
-- Assumes nothing.
use Rattle.texts.proofs.Lines.{same, put, and}
use Rattle.forms.proofs.Turns.{turned_pieces}
use Rattle.forms.proofs.put_turned.Goals as goal

pub returns : goal.returns
returns c = same (turned_pieces _ _ _ c.requires.0) (and (and (put c.put.ensures) c.put_sensors.ensures) (put c.put-2.ensures))
