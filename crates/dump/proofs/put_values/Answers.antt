-- `dump::put_values` meets its contract: after i turns the values of the first i wires stand there.
-- Assumes nothing.
use native.Mathlib.Omega.{arith}
use mathlib.Core.Bool.{false}
use mathlib.Core.Path.{◌≡◌}
use borrow.Author.Rules.{rules}
use lib.ListN.{length}
use Rattle.texts.proofs.Lines.{and, same, nothing}
use Rattle.dump.specs.Wires.{wires}
use Rattle.dump.specs.Dumps.{lines_from, value_line}
use Rattle.dump.proofs.Lines.{lines_turn}
use Rattle.dump.proofs.put_values.Goals as goal

pub loop-i-init : goal.loop-i-init
unfolding lines_from
loop-i-init c = nothing

pub loop-i-preserved : goal.loop-i-preserved
loop-i-preserved c =
    let l = c.loop-i in
    let a = c.args in
    let long : length a.values ≡ wires = search rules in
    same (lines_turn false value_line l.i a.values (omega (arith, long))) (and l.invariant c.put_value.ensures)
