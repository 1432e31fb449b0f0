-- `dump::put_changes` meets its contract: after i turns the changes of the first i wires stand there.
-- Assumes nothing.
use native.Mathlib.Omega.{arith}
use mathlib.Core.Path.{◌≡◌}
use lib.ListN.{length}
use Rattle.texts.proofs.Lines.{and, same, nothing}
use Rattle.dump.specs.Wires.{wires}
use Rattle.dump.specs.Dumps.{changes_from}
use Rattle.dump.proofs.Lines.{changes_turn}
use borrow.Author.Rules.{rules}
use Rattle.dump.proofs.put_changes.Goals as goal

pub loop-i-init : goal.loop-i-init
unfolding changes_from
loop-i-init c = nothing

pub loop-i-preserved : goal.loop-i-preserved
loop-i-preserved c =
    let l = c.loop-i in
    let a = c.args in
    let long : length a.olds ≡ wires = search rules in
    let long' : length a.news ≡ wires = search rules in
    same (changes_turn l.i a.olds a.news (omega (arith, long)) (omega (arith, long'))) (and l.invariant c.put_change.ensures)
