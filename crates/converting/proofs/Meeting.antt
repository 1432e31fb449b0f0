-- The conversions as the code makes them, by their cases: what loading answers, and what is put into the buffer.
-- Assumes nothing.
use Prim.Native.Nat.{ℕ, ◌+◌, ◌≤◌}
use native.Mathlib.Omega.{arith}
use mathlib.Core.Bool.{Bool, true, false, cond}
use mathlib.Core.List.{List, ◌++◌}
use mathlib.Core.Path.{◌≡◌, sym, ap, ◌∙◌}
use lib.ListN.{length, drop}
use Rattle.common.specs.Lists.{some}
use Rattle.texts.specs.Puts.{put_of}
use Rattle.texts.proofs.Placing.{did_put, front_line}
use Rattle.forms.specs.Forms.{old_size, new_size, in_new_form, in_old_form}
use Rattle.forms.proofs.ThereAndBack.{new_form_length, old_form_length}
use Rattle.voter.specs.Counts.{count_runs}
use Rattle.controller.specs.declared.State.{State}
use Rattle.controller.specs.Answers.{Answer}
use Rattle.image.specs.Images.{refusal_of, load_of}
use Rattle.image.proofs.Exact.{taken_holds, taken_is_loaded}
use Rattle.converting.specs.Converting.{to_new_of, some_count_runs, back_refusal_of, to_old_of}
use Rattle.converting.proofs.Exact.{handed_refusal, handed_image, back_of_refused, back_of_taken}

-- A piece that is put in front of a buffer with room for it, where it has so many bytes.
in_front : (size : ℕ) (piece buffer : List ℕ) → length piece ≡ size → size ≤ length buffer → (next : ℕ) (after : List ℕ)
    → (next, after) ≡ put_of buffer 0 piece → after ≡ piece ++ drop size buffer
in_front size piece buffer long room next after put =
    let fits : 0 + length piece ≤ length buffer = omega (arith, long, room) in
    front_line (did_put fits put) ∙ ap (λ (n : ℕ). piece ++ drop n buffer) long

module _ (image buffer : List ℕ) (before : State) (answer : Answer) where
  -- What loading answers.
  says_refusal : answer ≡ load_of before image 0 → answer.refusal ≡ refusal_of image
  unfolding load_of
  says_refusal e = ap (λ (a : Answer). a.refusal) e

  module _ (room : new_size ≤ length buffer) (loaded : answer ≡ load_of before image 0) where
    pub new_refused : (answer.refusal ≡ 0 → ⊥) → to_new_of image buffer ≡ (answer.refusal, buffer)
    unfolding to_new_of
    new_refused other =
        handed_refusal new_size (refusal_of image) (in_new_form image) buffer room (λ e. other (says_refusal loaded ∙ e))
        ∙ ap (λ (n : ℕ). (n, buffer)) (sym (says_refusal loaded))

    pub new_converted : answer.refusal ≡ 0 → (next : ℕ) (after : List ℕ) → (next, after) ≡ put_of buffer 0 (in_new_form image) → to_new_of image buffer ≡ (0, after)
    unfolding to_new_of
    new_converted taken next after put =
        let e = sym (says_refusal loaded) ∙ taken in
        handed_image new_size (refusal_of image) (in_new_form image) buffer room e
        ∙ ap (λ (l : List ℕ). (0, l)) (sym (in_front new_size (in_new_form image) buffer (new_form_length image (taken_holds image e).in_range.long) room next after put))

  module _ (room : old_size ≤ length buffer) (loaded : answer ≡ load_of before image 0) where
    pub old_refused : (answer.refusal ≡ 0 → ⊥) → to_old_of image buffer ≡ (answer.refusal, buffer)
    unfolding to_old_of
    old_refused other =
        let back = back_of_refused image (λ e. other (says_refusal loaded ∙ e)) in
        handed_refusal old_size (back_refusal_of image) (in_old_form image) buffer room (λ e. other (says_refusal loaded ∙ sym back ∙ e))
        ∙ ap (λ (n : ℕ). (n, buffer)) (back ∙ sym (says_refusal loaded))

    module _ (taken : answer.refusal ≡ 0) where
      is_taken_lem : refusal_of image ≡ 0
      is_taken_lem = sym (says_refusal loaded) ∙ taken

      -- The counts of what is loaded are those of the image.
      counts_say : (t : Bool) → some count_runs answer.state.voters ≡ t → back_refusal_of image ≡ cond t 12 0
      unfolding some_count_runs
      counts_say t e =
          let own = loaded ∙ taken_is_loaded image (taken_holds image is_taken_lem) before 0 in
          back_of_taken image is_taken_lem
          ∙ ap (λ (b : Bool). cond b 12 0) (ap (λ (a : Answer). some count_runs a.state.voters) (sym own) ∙ e)

      pub old_counted : some count_runs answer.state.voters ≡ true → to_old_of image buffer ≡ (12, buffer)
      unfolding to_old_of
      old_counted e =
          let back = counts_say true e in
          handed_refusal old_size (back_refusal_of image) (in_old_form image) buffer room (λ z. omega (arith, z, back)) ∙ ap (λ (n : ℕ). (n, buffer)) back

      pub old_converted : some count_runs answer.state.voters ≡ false → (next : ℕ) (after : List ℕ)
          → (next, after) ≡ put_of buffer 0 (in_old_form image) → to_old_of image buffer ≡ (0, after)
      unfolding to_old_of
      old_converted e next after put =
          handed_image old_size (back_refusal_of image) (in_old_form image) buffer room (counts_say false e)
          ∙ ap (λ (l : List ℕ). (0, l)) (sym (in_front old_size (in_old_form image) buffer (old_form_length image (taken_holds image is_taken_lem).in_range.long) room next after put))
