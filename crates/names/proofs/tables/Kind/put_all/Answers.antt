-- `names::tables::Kind::put_all` meets its contract: where there is room for all words and the commas between, and where there is none.
-- Assumes nothing.
use Rattle.std.proofs.Common.{sym, ◌∙◌, arith}
use borrow.Author.Tests.{leb-true, leb-false}
use Rattle.texts.proofs.Lines.{no_room, as_put}
use Rattle.names.proofs.Joined.{size_fits, size_joined}
use Rattle.names.proofs.tables.Kind.put_all.Goals as goal

pub size_with_commas-requires : goal.size_with_commas-requires
size_with_commas-requires c = size_fits c.args.self _ c.words-words.ensures

pub overflow_sub-size_with_commas : goal.overflow_sub-size_with_commas
overflow_sub-size_with_commas c = let size = size_joined c.args.self _ c.words-words.ensures in omega arith

pub returns-then-has_room : goal.returns-then-has_room
returns-then-has_room c =
    let size = size_joined c.args.self _ c.words-words.ensures in
    let room = leb-true _ _ (sym c.has_room.ensures ∙ c.if-has_room.true) in
    as_put (omega arith) (rw c.words-words.ensures at c.put_joined.ensures)

pub returns-else-has_room : goal.returns-else-has_room
returns-else-has_room c =
    let size = size_joined c.args.self _ c.words-words.ensures in
    let room = leb-false _ _ (sym c.has_room.ensures ∙ c.if-has_room.false) in
    no_room _ (omega arith)
