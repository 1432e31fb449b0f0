-- `image::save` meets its contract: without room, and with it.
-- Assumes nothing.
use mathlib.Core.Path.{sym, ◌∙◌}
use borrow.Author.Tests.{lt-ltb, le-ltb}
use Rattle.texts.proofs.Placing.{front_next, front_line}
use Rattle.image.specs.Images.{save_of}
use Rattle.image.proofs.save.Goals as goal

pub returns-then-out-lt-SIZE : goal.returns-then-out-lt-SIZE
unfolding save_of
returns-then-out-lt-SIZE c = simp (lt-ltb _ _ c.if-out-lt-SIZE.true)

pub returns : goal.returns
unfolding save_of
returns c =
    let stands = c.put_state.ensures in
    let whole = sym (front_next stands.1) ∙ stands.0 in
    simp (le-ltb _ _ c.if-out-lt-SIZE.false, front_line stands.1, whole)
