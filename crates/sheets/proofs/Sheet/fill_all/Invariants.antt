-- `sheets::Sheet::fill_all` meets its contract. The loop's invariant: the rule gives for the whole part what it gives from here on, behind the text
-- that stands in front of the output buffer.
-- Assumes nothing.
use Rattle.std.proofs.Common.{◌≡◌, ◌+◌, ◌-◌, ◌≤◌, false, [], length, take, drop}
use Rattle.sheets.specs.Sheets.{row_room}
use Rattle.sheets.specs.Runs.{fill_from}
use Rattle.sheets.proofs.Sheet.fill_all.Given as goal

abbrev pub invariant-loop-used : goal.invariant-loop-used
invariant-loop-used l =
    (l.used ≤ length l.part)
    × (l.sheet.nine ≡ false)
    × (length l.out ≡ length l.initial.out)
    × (l.written + row_room ≤ length l.initial.out)
    × (drop l.written l.out ≡ drop l.written l.initial.out)
    × (fill_from (length l.initial.out) l.initial.sheet 0 [] l.part ≡ fill_from (length l.initial.out) l.sheet l.used (take l.written l.out) (drop l.used l.part))

abbrev pub decreases-loop-used : goal.decreases-loop-used
decreases-loop-used l = length l.part - l.used
