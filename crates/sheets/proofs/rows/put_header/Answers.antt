-- `sheets::rows::put_header` meets its contract: the header fits a line of its own, and is put.
-- Assumes nothing.
use Rattle.std.proofs.Common.{◌≡◌, ◌∙◌, length, arith, rules}
use Rattle.texts.proofs.Lines.{told, same_put}
use Rattle.sheets.proofs.Fields.{header_length_lem}
use Rattle.sheets.proofs.rows.put_header.Goals as goal

pub returns : goal.returns
returns c =
    let lent : length c.new-text.result.bytes.now ≡ 415 = search rules in
    same_put (c.text.ensures ∙ told c.header_text.ensures (search rules) (omega (arith, header_length_lem))) c.put.ensures
