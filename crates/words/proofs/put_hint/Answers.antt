-- `words::put_hint` meets its contract: what is said of line 1, and the bare LF where there is one.
-- Assumes nothing.
use mathlib.Core.List.{append-nil}
use mathlib.Core.Path.{sym}
use Rattle.texts.proofs.Lines.{same, put, and}
use Rattle.words.specs.Messages.{hint_text}
use Rattle.words.proofs.put_hint.Goals as goal

pub returns-then-bare : goal.returns-then-bare
unfolding hint_text
returns-then-bare c =
    rw c.if-bare.true (and (put c.put.ensures) (put c.put-then-bare.ensures))

pub returns-else-bare : goal.returns-else-bare
unfolding hint_text
returns-else-bare c =
    rw c.if-bare.false (same (sym (append-nil _)) (put c.put.ensures))
