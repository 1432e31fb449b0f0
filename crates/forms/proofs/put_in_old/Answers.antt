-- `forms::put_in_old` meets its contract: as it is, in the other form, and without room.
-- Assumes nothing.
use Rattle.std.proofs.Common.{sym, ◌∙◌, arith}
use borrow.Author.Tests.{leb-true, leb-false}
use Rattle.texts.proofs.Lines.{as_put, no_room, same, same_put}
use Rattle.forms.proofs.Turns.{narrowed_so}
use Rattle.forms.proofs.ThereAndBack.{new_is_narrowed, other_is_not_narrowed, narrowed_length}
use Rattle.forms.proofs.put_in_old.Goals as goal

pub returns-then-image-ne-NEW : goal.returns-then-image-ne-NEW
returns-then-image-ne-NEW c = same_put (sym (other_is_not_narrowed c.args.image.now c.if-image-ne-NEW.true)) c.put.ensures

pub returns-then-has_room : goal.returns-then-has_room
returns-then-has_room c =
    let bytes = c.args.image.now in
    let other = c.if-image-ne-NEW.false in
    let room = leb-true _ _ (sym c.has_room.ensures ∙ c.if-has_room.true) in
    same_put (sym (new_is_narrowed bytes other)) (as_put (omega (arith, narrowed_length bytes other, room)) (same (narrowed_so bytes) c.put_turned.ensures))

pub returns-else-has_room : goal.returns-else-has_room
returns-else-has_room c =
    let bytes = c.args.image.now in
    let other = c.if-image-ne-NEW.false in
    let room = leb-false _ _ (sym c.has_room.ensures ∙ c.if-has_room.false) in
    same_put (sym (new_is_narrowed bytes other)) (no_room _ (omega (arith, narrowed_length bytes other, room)))
