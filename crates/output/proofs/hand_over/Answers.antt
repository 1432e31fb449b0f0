-- `output::hand_over` meets its contract: where there is no room, and where there is.
-- Assumes nothing.
use native.Mathlib.Omega.{arith}
use borrow.Author.Tests.{le-ltb}
use lib.ListN.{length}
use lib.Seq.{take_all}
use Rattle.output.specs.Rows.{written}
use Rattle.output.proofs.hand_over.Goals as goal

pub returns : goal.returns
unfolding written
returns c =
    let text = c.args.text.now in
    let out = c.args.out.now in
    rw (le-ltb (length out) (length text) (omega arith), c.copy.ensures.count, c.copy.ensures.after, take_all (length text) text (omega arith))
