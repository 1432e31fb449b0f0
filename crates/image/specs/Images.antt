-- Requests K3 and K6: saving and loading, with the refusals 8, 10 and 11. Saving writes the new form. Items, ranges and rules speak of the
-- new form alone: an old image is widened first (`Rattle.forms.specs.Forms`), so it loads with odd channels and counts at 0.
-- Assumes nothing.
use Rattle.std.specs.Prelude.{ℕ, ◌*◌, Bool, false, cond, not, List, [], ◌∷◌, ◌++◌, eqb, ltb, length, drop}
use Rattle.common.specs.Lowest.{lowest}
use Rattle.forms.specs.Forms.{in_new_form}
use Rattle.controller.specs.declared.State.{State}
use Rattle.controller.specs.Answers.{Answer}
use Rattle.image.specs.Xdr.{bytes_of, items_in}
use Rattle.image.specs.Items.{item_count, items_of, tops, within, state_in}
use Rattle.image.specs.Rules.{rules_hold}

-- Four bytes for each item: 348.
abbrev pub size : ℕ
size = 4 * item_count

-- The image of a controller.
unfoldable pub image_of : State → List ℕ
image_of s = bytes_of (items_of s)

-- Saving into a lent buffer. 8: the buffer is shorter than the image, and is left as it was. Else 0: the image stands in front,
-- and the bytes past it stay.
unfoldable pub save_of : State → List ℕ → ℕ × List ℕ
save_of s buffer = cond (ltb (length buffer) size) (8, buffer) (0, image_of s ++ drop size buffer)

-- The items of an image of either form, as they stand in the new one.
unfoldable pub new_items : List ℕ → List ℕ
new_items image = items_in (in_new_form image)

-- The length is that of a form, and every item is in its range.
unfoldable pub fits : List ℕ → Bool
fits image = cond (eqb (length (in_new_form image)) size) (within tops (new_items image)) false

-- The controller that an image is of, at a new start stamp.
unfoldable pub loaded_at : ℕ → List ℕ → State
loaded_at stamp image = state_in stamp (new_items image)

-- 10: length or range. 11: a rule is broken. 0 where the image is taken. (No rule speaks of the stamp.)
unfoldable pub refusal_of : List ℕ → ℕ
refusal_of image = lowest 10 (not (fits image) ∷ not (rules_hold (loaded_at 0 image)) ∷ [])

-- Loading: the refusal's number and the controller as before, or 0 and the one that the image is of.
unfoldable pub load_of : State → List ℕ → ℕ → Answer
load_of before image stamp =
    record {
      refusal = refusal_of image;
      state = cond (eqb (refusal_of image) 0) (loaded_at stamp image) before;
    }
