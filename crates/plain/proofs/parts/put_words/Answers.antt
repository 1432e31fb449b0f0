-- `plain::parts::put_words` meets its contract: each by its place.
-- Assumes nothing.
use Rattle.std.proofs.Common.{arith}
use Rattle.texts.proofs.Lines.{same, put}
use Rattle.plain.specs.Parts.{rule_words}
use Rattle.plain.proofs.Named.{rule_of_order, past_rules}
use Rattle.plain.proofs.parts.put_words.Goals as goal

pub returns-in-0 : goal.returns-in-0
unfolding rule_words
returns-in-0 c = rw c.in-0.is (put c.put.ensures)

pub returns-in-1-to-4 : goal.returns-in-1-to-4
returns-in-1-to-4 c = same (rule_of_order _ (omega arith) (omega arith)) c.put_on_rule.ensures

pub returns-in-5 : goal.returns-in-5
unfolding rule_words
returns-in-5 c = rw c.in-5.is (put c.put-in-5.ensures)

pub returns-in-6 : goal.returns-in-6
unfolding rule_words
returns-in-6 c = rw c.in-6.is (put c.put-in-6.ensures)

pub returns-in-7 : goal.returns-in-7
unfolding rule_words
returns-in-7 c = rw c.in-7.is (put c.put-in-7.ensures)

pub returns-in-8 : goal.returns-in-8
unfolding rule_words
returns-in-8 c = rw c.in-8.is (put c.put-in-8.ensures)

pub returns-in-9 : goal.returns-in-9
unfolding rule_words
returns-in-9 c = rw c.in-9.is (put c.put-in-9.ensures)

pub returns-in_default : goal.returns-in_default
returns-in_default c = same (past_rules c.args.k (omega arith)) (put c.put-in_default.ensures)
