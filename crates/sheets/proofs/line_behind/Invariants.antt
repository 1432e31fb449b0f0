-- `sheets::line_behind` meets its contract: after i turns the line is the one behind i bytes.
-- Assumes nothing.
use Rattle.std.proofs.Common.{◌≡◌, take}
use Rattle.sheets.specs.Runs.{line_behind}
use Rattle.sheets.proofs.line_behind.Given as goal

abbrev pub invariant-loop-b : goal.invariant-loop-b
invariant-loop-b l = l.at ≡ line_behind l.line (take l.b-index l.bytes)
