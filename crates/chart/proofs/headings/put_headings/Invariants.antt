-- `chart::headings::put_headings` meets its contract: after so many turns so many columns, and so many rows.
-- Assumes nothing.
use Rattle.std.proofs.Common.{ℕ, ◌+◌, ◌*◌}
use Rattle.texts.specs.Lines.{PutsIfRoom}
use Rattle.chart.specs.Headings.{column_text, row_text}
use Rattle.chart.proofs.Turns.{so_far}
use Rattle.chart.proofs.headings.put_headings.Given as goal

abbrev pub invariant-loop-i : goal.invariant-loop-i
invariant-loop-i l = PutsIfRoom (so_far (λ (i : ℕ). column_text (l.k + i)) l.i) l.initial.text l.text

abbrev pub invariant-loop-i-2 : goal.invariant-loop-i-2
invariant-loop-i-2 l = PutsIfRoom (so_far (λ (i : ℕ). row_text (l.k + 4 * i)) l.i) l.initial.text l.text
