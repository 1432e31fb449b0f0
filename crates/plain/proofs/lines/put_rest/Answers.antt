-- `plain::lines::put_rest` meets its contract: a line for the handle, those of the place, and one for the cause.
-- Assumes nothing.
use Rattle.texts.proofs.Lines.{same, put, and}
use Rattle.plain.specs.Plain.{line, rest_lines}
use Rattle.plain.proofs.Texts.{age_text}
use Rattle.plain.proofs.lines.put_rest.Goals as goal

pub returns : goal.returns
unfolding line rest_lines
returns c =
    let first = same (age_text c.args.core.since) (and (put c.put.ensures) (and (put c.put_number.ensures) (put c.put-2.ensures))) in
    and (and first c.put_place.ensures)
    (and (and (put c.put-3.ensures) (put c.put_cause.ensures)) (put c.put-4.ensures))
