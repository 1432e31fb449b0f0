-- Request K6: an image converted from one form to the other, into a lent buffer, with the refusals 8, 10, 11 and 12. No controller comes of
-- it, and the stamp is kept. An image that has the form that is asked for is looked at like any other, and handed over byte for byte.
-- Assumes nothing.
use Rattle.std.specs.Prelude.{ℕ, Bool, cond, not, List, [], ◌∷◌, ◌++◌, ◌≡◌, eqb, ltb, length, take, drop}
use Rattle.common.specs.Lists.{some, Each}
use Rattle.common.specs.Lowest.{lowest}
use Rattle.forms.specs.Forms.{old_size, new_size, in_new_form, in_old_form}
use Rattle.voter.specs.declared.Voter.{Voter}
use Rattle.voter.specs.Counts.{count_runs}
use Rattle.image.specs.Rules.{rules_hold}
use Rattle.image.specs.Images.{fits, loaded_at, refusal_of}

-- Handing over into a lent buffer: 8 where it is shorter than the form that is asked for, before the image is looked at; else the refusal,
-- and the buffer is left as it was; else 0: the converted image stands in front, and the bytes past it stay.
unfoldable pub handed_over : ℕ → ℕ → List ℕ → List ℕ → ℕ × List ℕ
handed_over size refusal converted buffer =
    cond (ltb (length buffer) size) (8, buffer)
    (cond (eqb refusal 0) (0, converted ++ drop size buffer) (refusal, buffer))

-- To the new form: 10 and 11 as in loading.
unfoldable pub to_new_of : List ℕ → List ℕ → ℕ × List ℕ
to_new_of image buffer = handed_over new_size (refusal_of image) (in_new_form image) buffer

-- Some count is not 0.
unfoldable pub some_count_runs : List ℕ → Bool
some_count_runs image = some count_runs (loaded_at 0 image).voters

-- Going back: 10 and 11 as in loading, "then 12 when going back is not possible".
unfoldable pub back_refusal_of : List ℕ → ℕ
back_refusal_of image = lowest 10 (not (fits image) ∷ not (rules_hold (loaded_at 0 image)) ∷ some_count_runs image ∷ [])

-- To the old form.
unfoldable pub to_old_of : List ℕ → List ℕ → ℕ × List ℕ
to_old_of image buffer = handed_over old_size (back_refusal_of image) (in_old_form image) buffer

-- What was converted: the bytes in front of the buffer, as many as the form has.
abbrev pub new_from : List ℕ → List ℕ → List ℕ
new_from image buffer = take new_size (to_new_of image buffer).1

abbrev pub old_from : List ℕ → List ℕ → List ℕ
old_from image buffer = take old_size (to_old_of image buffer).1

-- "Going back to the old form is possible exactly when all counts are 0."
abbrev pub AllCountsAre0 : List ℕ → Type 0
AllCountsAre0 image = Each (λ (v : Voter). v.count ≡ 0) (loaded_at 0 image).voters
