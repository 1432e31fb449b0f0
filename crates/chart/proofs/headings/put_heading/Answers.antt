-- `chart::headings::put_heading` meets its contract: its beginning, its words, and its end.
-- Assumes nothing.
use Rattle.std.proofs.Common.{arith}
use Rattle.std.proofs.lemmas.Grind.{common_steps}
use Rattle.std.proofs.lemmas.List.{take_all}
use Rattle.texts.proofs.Lines.{nothing, same, put, and}
use Rattle.chart.proofs.headings.put_heading.Goals as goal

pub loop-word-init : goal.loop-word-init
loop-word-init c = nothing

pub loop-word-preserved : goal.loop-word-preserved
loop-word-preserved c = same (grind (arith, common_steps)) (and c.loop-word.invariant (put c.put.ensures))

pub returns : goal.returns
returns c =
    let words = rw (take_all _ c.args.words.now c.loop-word-test.false) at c.loop-word.invariant in
    and (and c.put_begin.ensures words) (put c.put-2.ensures)
