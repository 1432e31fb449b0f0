-- `names::tables::put_joined` meets its contract: the first word, and after so many turns so many of the rest, each behind a comma.
-- Assumes nothing.
use Rattle.std.proofs.Common.{take}
use Rattle.texts.specs.Lines.{PutsIfRoom}
use Rattle.names.proofs.Joined.{behind}
use Rattle.names.proofs.tables.put_joined.Given as goal

abbrev pub invariant-loop-word : goal.invariant-loop-word
invariant-loop-word l = PutsIfRoom (behind (take l.word-index l.rest)) l.initial.line l.line
