-- `plain::lines::put_cause` meets its contract: a cause's word, or another number as it is.
-- Assumes nothing.
use borrow.Author.Tests.{lt-ltb, le-ltb}
use Rattle.names.specs.Words.{cause_words}
use Rattle.plain.specs.Plain.{of_cause}
use Rattle.plain.proofs.lines.put_cause.Goals as goal

pub returns-then-k-lt-CAUSES : goal.returns-then-k-lt-CAUSES
unfolding of_cause cause_words
returns-then-k-lt-CAUSES c =
    rw (lt-ltb _ _ c.if-k-lt-CAUSES.true) (rw c.word.ensures at c.put.ensures)

pub returns : goal.returns
unfolding of_cause cause_words
returns c =
    rw (le-ltb _ _ c.if-k-lt-CAUSES.false) c.put_number.ensures
