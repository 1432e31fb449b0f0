-- `names::tables::put_joined` meets its contract: the first word, and after so many turns so many of the rest, each behind a comma.
-- Assumes nothing.
use Rattle.std.proofs.Common.{arith, sym}
use Rattle.std.proofs.lemmas.Grind.{common_steps}
use Rattle.std.proofs.lemmas.List.{nil_from_length, take_all}
use Rattle.common.specs.Ascii.{joined_by_commas}
use Rattle.texts.proofs.Lines.{nothing, same, put, and}
use Rattle.names.proofs.Joined.{joined_first}
use Rattle.names.proofs.tables.put_joined.Goals as goal

pub returns-in_default : goal.returns-in_default
unfolding joined_by_commas
returns-in_default c = rw (nil_from_length _ c.in_default.ensures.cases) nothing

pub loop-word-preserved : goal.loop-word-preserved
loop-word-preserved c =
    same (grind (arith, common_steps)) (and c.loop-word.invariant (and (put c.put-in-loop-word.ensures) (put c.put-in-loop-word-2.ensures)))

pub returns : goal.returns
returns c = same (rw (take_all _ c.in-Some.rest.now c.loop-word-test.false, c.in-Some.ensures.cases.0) (sym (joined_first c.in-Some.first.now c.in-Some.rest.now)))
    (and (put c.put.ensures) c.loop-word.invariant)
