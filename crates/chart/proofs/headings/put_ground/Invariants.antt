-- `chart::headings::put_ground` meets its contract: after so many turns so many columns.
-- Assumes nothing.
use Rattle.std.proofs.Common.{ℕ, ◌+◌, ◌*◌}
use Rattle.texts.specs.Lines.{PutsIfRoom}
use Rattle.chart.specs.Headings.{ground_column_text}
use Rattle.chart.proofs.Turns.{so_far}
use Rattle.chart.proofs.headings.put_ground.Given as goal

abbrev pub invariant-loop-i : goal.invariant-loop-i
invariant-loop-i l = PutsIfRoom (so_far (λ (i : ℕ). ground_column_text (l.k + 4 * i)) l.i) l.initial.text l.text
