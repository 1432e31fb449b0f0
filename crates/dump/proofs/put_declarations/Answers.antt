-- `dump::put_declarations` meets its contract: after i turns the declarations of the first i wires stand there.
-- Assumes nothing.
use native.Mathlib.Omega.{arith}
use mathlib.Core.List.{[]}
use mathlib.Core.Path.{ap}
use lib.Seq.{take_all}
use Rattle.texts.proofs.Lines.{and, same, nothing}
use Rattle.dump.specs.Wires.{wire_names, first_code}
use Rattle.dump.specs.Dumps.{lines_from, declaration, declarations}
use Rattle.dump.proofs.Lines.{names_length, lines_turn}
use Rattle.dump.proofs.put_declarations.Goals as goal

pub loop-wire-init : goal.loop-wire-init
unfolding lines_from
loop-wire-init c = nothing

pub loop-wire-preserved : goal.loop-wire-preserved
loop-wire-preserved c =
    let l = c.loop-wire in
    same (lines_turn [] declaration l.wire wire_names (omega (arith, names_length))) (and l.invariant c.put_declaration.ensures)

pub returns : goal.returns
returns c =
    let l = c.loop-wire in
    same (ap (declarations first_code) (take_all l.wire wire_names (omega (arith, names_length)))) l.invariant
