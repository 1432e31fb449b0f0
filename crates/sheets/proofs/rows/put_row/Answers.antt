-- `sheets::rows::put_row` meets its contract: a row fits a line of its own, and is put.
-- Assumes nothing.
use Rattle.std.proofs.Common.{◌≡◌, ◌∙◌, length, arith, rules}
use Rattle.texts.proofs.Lines.{told, same_put}
use Rattle.dump.specs.Wires.{wires}
use Rattle.sheets.proofs.Fields.{row_length}
use Rattle.sheets.proofs.rows.put_row.Goals as goal

pub returns : goal.returns
returns c =
    let a = c.args in
    let lent : length c.new-text.result.bytes.now ≡ 74 = search rules in
    let wide : length a.values ≡ wires = search rules in
    let short = row_length a.time a.values (omega arith) wide in
    same_put (c.text.ensures ∙ told c.row_text.ensures (search rules) (omega arith)) c.put.ensures
