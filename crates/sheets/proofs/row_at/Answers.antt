-- `sheets::row_at` meets its contract: a row is no longer than the room for it.
-- Assumes nothing.
use Rattle.std.proofs.Common.{◌≡◌, ◌≤◌, ◌+◌, length, arith, rules}
use Rattle.texts.specs.Puts.{Put}
use Rattle.texts.proofs.Placing.{did_put}
use Rattle.dump.specs.Wires.{wires}
use Rattle.sheets.specs.Sheets.{sheet_row}
use Rattle.sheets.proofs.Fields.{row_length}
use Rattle.sheets.proofs.row_at.Goals as goal

pub returns : goal.returns
returns c =
    let a = c.args in
    let end = c.put_row.new.line in
    let wide : length a.values ≡ wires = search rules in
    let short = row_length a.time a.values (omega arith) wide in
    let p : Put a.out.now a.at (sheet_row a.time a.values) end.bytes.now end.at = did_put (omega (arith, short, c.requires)) c.put_row.ensures.put in
    let within : end.at ≤ a.at + 74 = omega (arith, p.place, short) in
    search rules
