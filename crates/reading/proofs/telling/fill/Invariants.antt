-- `reading::telling::fill`: the turns that are left come to the answer of the whole part.
-- Assumes nothing.
use Rattle.std.proofs.Common.{◌≡◌, ◌-◌, ◌≤◌, length}
use Rattle.std.specs.Prelude.{Ok}
use Rattle.reading.specs.Fills.{fill_by}
use Rattle.reading.specs.Called.{called_says}
use Rattle.reading.proofs.Fills.{Reaches}
use Rattle.reading.proofs.telling.fill.Given as goal

abbrev pub invariant-loop-line : goal.invariant-loop-line
invariant-loop-line g l =
    record {
      used : l.took.used ≤ length l.part;
      written : l.took.written ≤ length l.out;
      line_kept : length l.line ≡ length l.initial.line;
      out_kept : length l.out ≡ length l.initial.out;
      reaches : Reaches g.T.Tell.told g.met.T.Tell.quiet g.T.Tell.ROOM l.part
          (fill_by g.T.Tell.told g.T.Tell.ROOM l.initial.took.carried l.initial.took.run l.part l.initial.line l.initial.out)
          (called_says l.took.carried l.took.run (Ok l.took), l.line, l.out);
    }

abbrev pub decreases-loop-line : goal.decreases-loop-line
decreases-loop-line g l = length l.part - l.took.used
