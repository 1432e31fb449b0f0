-- `sheets::rows::put_fields` meets its contract: after i turns the fields of the first i wires stand there.
-- Assumes nothing.
use Rattle.std.proofs.Common.{◌≡◌, length, arith, rules}
use Rattle.texts.proofs.Lines.{and, same, nothing}
use Rattle.dump.specs.Wires.{wires}
use Rattle.sheets.specs.Sheets.{later_fields}
use Rattle.sheets.proofs.Fields.{fields_turn}
use Rattle.sheets.proofs.rows.put_fields.Goals as goal

pub loop-value-init : goal.loop-value-init
unfolding later_fields
loop-value-init c = nothing

pub loop-value-preserved : goal.loop-value-preserved
loop-value-preserved c =
    let l = c.loop-value in
    let a = c.args in
    let long : length a.values ≡ wires = search rules in
    same (fields_turn l.value-index a.values (omega (arith, long))) (and l.invariant c.put_field.ensures)
