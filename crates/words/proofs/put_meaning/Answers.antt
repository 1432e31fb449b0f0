-- `words::put_meaning` meets its contract: by the refusal.
-- Assumes nothing.
use borrow.Author.Rules.{rules}
use borrow.Author.Tests.{ne_eqb}
use Rattle.texts.proofs.Lines.{put}
use Rattle.words.specs.Messages.{meaning_text}
use Rattle.words.proofs.put_meaning.Goals as goal

pub returns-in-6 : goal.returns-in-6
unfolding meaning_text
returns-in-6 c = rw c.in-6.is (put c.put.ensures)

pub returns-in-7 : goal.returns-in-7
unfolding meaning_text
returns-in-7 c = rw c.in-7.is (put c.put-in-7.ensures)

pub returns-in_default : goal.returns-in_default
unfolding meaning_text
returns-in_default c =
    rw (ne_eqb c.args.refusal 6 (search rules), ne_eqb c.args.refusal 7 (search rules)) (put c.put-in_default.ensures)
