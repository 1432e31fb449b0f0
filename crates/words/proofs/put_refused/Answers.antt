-- `words::put_refused` meets its contract: line and number, what it means, and what is said of line 1.
-- Assumes nothing.
use mathlib.Core.List.{append-nil}
use mathlib.Core.Path.{sym}
use borrow.Author.Tests.{eq-eqb, ne_eqb}
use Rattle.texts.proofs.Lines.{same, and}
use Rattle.words.specs.Messages.{refused_text}
use Rattle.words.proofs.put_refused.Goals as goal

pub returns-then-line-eq1 : goal.returns-then-line-eq1
unfolding refused_text
returns-then-line-eq1 c =
    rw (eq-eqb _ _ c.if-line-eq1.true) (and (and c.put_numbers.ensures c.put_meaning.ensures) c.put_hint.ensures)

pub returns-else-line-eq1 : goal.returns-else-line-eq1
unfolding refused_text
returns-else-line-eq1 c =
    rw (ne_eqb _ _ c.if-line-eq1.false) (same (sym (append-nil _)) (and c.put_numbers.ensures c.put_meaning.ensures))
