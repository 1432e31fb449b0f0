-- `plain::lines::put_odd` meets its contract: piece by piece.
-- Assumes nothing.
use Rattle.texts.proofs.Lines.{put, and}
use Rattle.plain.specs.Plain.{of_odd}
use Rattle.plain.proofs.lines.put_odd.Goals as goal

pub returns : goal.returns
unfolding of_odd
returns c =
    and (and (and (put c.put.ensures) (put c.put_number.ensures)) (put c.put-2.ensures)) c.put_samples.ensures
