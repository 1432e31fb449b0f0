-- `image::in_new_form` meets its contract: what is no old image as it is, and an old one widened.
-- Assumes nothing.
use Rattle.std.proofs.Common.{sym}
use Rattle.forms.proofs.ThereAndBack.{other_is_not_widened}
use Rattle.image.proofs.EitherForm.{fills}
use Rattle.image.proofs.in_new_form.Goals as goal

pub returns-then-image-ne-OLD : goal.returns-then-image-ne-OLD
returns-then-image-ne-OLD c = sym (other_is_not_widened _ c.if-image-ne-OLD.true)

pub returns : goal.returns
returns c = fills _ c.if-image-ne-OLD.false _ c.told-room _ _ c.put_new.ensures
