-- Request K3, "11 a rule broken": the laws hold from the images that are taken, and not from all that get 11.
-- Assumes nothing.
use Rattle.std.specs.Prelude.{List, ◌≡◌, ℕ}
use Rattle.controller.specs.declared.State.{State}
use Rattle.image.specs.Xdr.{bytes_of}
use Rattle.image.specs.Images.{loaded_at, refusal_of}
use Rattle.image.specs.Cases.{with, close_on, opening}

-- A law of every controller that is in an image with this answer, which is 0 where it is taken.
abbrev pub FromImages : ℕ → (State → Type 0) → Type 0
FromImages answer Law = (image : List ℕ) → refusal_of image ≡ answer → (stamp : ℕ) → Law (loaded_at stamp image)

abbrev pub FromTakenImages : (State → Type 0) → Type 0
FromTakenImages = FromImages 0

-- Doors OPENING, general_EV and open_EV on, and close_EV too: every item is in its range, and close_EV is not wanted.
unfoldable pub both_on : List ℕ
both_on = bytes_of (with close_on 1 opening)
