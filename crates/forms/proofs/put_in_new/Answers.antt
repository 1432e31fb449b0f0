-- `forms::put_in_new` meets its contract: as it is, in the other form, and without room.
-- Assumes nothing.
use Rattle.std.proofs.Common.{sym, ◌∙◌, arith}
use borrow.Author.Tests.{leb-true, leb-false}
use Rattle.texts.proofs.Lines.{as_put, no_room, same, same_put}
use Rattle.forms.proofs.Turns.{widened_so}
use Rattle.forms.proofs.ThereAndBack.{old_is_widened, other_is_not_widened, widened_length}
use Rattle.forms.proofs.put_in_new.Goals as goal

pub returns-then-image-ne-OLD : goal.returns-then-image-ne-OLD
returns-then-image-ne-OLD c = same_put (sym (other_is_not_widened c.args.image.now c.if-image-ne-OLD.true)) c.put.ensures

pub returns-then-has_room : goal.returns-then-has_room
returns-then-has_room c =
    let bytes = c.args.image.now in
    let other = c.if-image-ne-OLD.false in
    let room = leb-true _ _ (sym c.has_room.ensures ∙ c.if-has_room.true) in
    same_put (sym (old_is_widened bytes other)) (as_put (omega (arith, widened_length bytes other, room)) (same (widened_so bytes) c.put_turned.ensures))

pub returns-else-has_room : goal.returns-else-has_room
returns-else-has_room c =
    let bytes = c.args.image.now in
    let other = c.if-image-ne-OLD.false in
    let room = leb-false _ _ (sym c.has_room.ensures ∙ c.if-has_room.false) in
    same_put (sym (old_is_widened bytes other)) (no_room _ (omega (arith, widened_length bytes other, room)))
