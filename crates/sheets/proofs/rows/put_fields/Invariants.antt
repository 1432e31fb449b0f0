-- `sheets::rows::put_fields` meets its contract: after i turns the fields of the first i wires stand there.
-- Assumes nothing.
use Rattle.std.proofs.Common.{take}
use Rattle.texts.specs.Lines.{PutsIfRoom}
use Rattle.sheets.specs.Sheets.{later_fields}
use Rattle.sheets.proofs.rows.put_fields.Given as goal

abbrev pub invariant-loop-value : goal.invariant-loop-value
invariant-loop-value l = PutsIfRoom (later_fields (take l.value-index l.fn.values)) l.initial.line l.line
