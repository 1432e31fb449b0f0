-- Request K6: which number a conversion gives, exactly. 8 exactly if the buffer is shorter than the form that is asked for; with room 10 and 11
-- exactly as in loading, for both forms; going back then 12 exactly if some count is not 0. What is refused leaves the buffer as it was.
-- Assumes nothing.
use Prim.Native.Nat.{ℕ, ◌≤◌, ◌<◌}
use native.Mathlib.Omega.{arith}
use mathlib.Core.Bool.{Bool, true, false, cond, not, ◌||◌}
use mathlib.Core.List.{List, [], ◌∷◌, ◌++◌}
use mathlib.Core.Logic.{◌↔◌, ◌⊎◌}
use mathlib.Core.Logic.◌⊎◌.{inl, inr}
use mathlib.Core.Path.{◌≡◌, refl, sym, ap, subst, subst⁻¹, ◌∙◌}
use borrow.Author.Tests.{eq-eqb, ne_eqb, lt-ltb, le-ltb, ltb-false}
use lib.Dec.{T, eqb, ltb, eqb→eq, ltb→lt}
use lib.ListN.{length, drop}
use Rattle.common.specs.Lists.{some, Each}
use Rattle.common.specs.Lowest.{lowest}
use Rattle.forms.specs.Forms.{old_size, new_size, in_new_form, in_old_form}
use Rattle.voter.specs.declared.Voter.{Voter}
use Rattle.voter.specs.Counts.{count_runs}
use Rattle.image.specs.Rules.{rules_hold}
use Rattle.image.specs.Images.{fits, loaded_at, refusal_of}
use Rattle.image.specs.Conditions.{KeepsRules, InRange, Taken}
use Rattle.image.proofs.Exact.{taken_holds, holds_taken, ten_exactly, eleven_exactly, no_other}
use Rattle.converting.specs.Converting.{handed_over, to_new_of, some_count_runs, back_refusal_of, to_old_of, AllCountsAre0}

-- ---- A lent buffer

module _ (size refusal : ℕ) (converted buffer : List ℕ) where
  -- Too short.
  pub too_short : length buffer < size → handed_over size refusal converted buffer ≡ (8, buffer)
  unfolding handed_over
  too_short h = rw (lt-ltb (length buffer) size h)

  module _ (room : size ≤ length buffer) where
    -- With room, refused ..
    pub handed_refusal : (refusal ≡ 0 → ⊥) → handed_over size refusal converted buffer ≡ (refusal, buffer)
    unfolding handed_over
    handed_refusal other = rw (le-ltb (length buffer) size room, ne_eqb refusal 0 other)

    -- .. and taken.
    pub handed_image : refusal ≡ 0 → handed_over size refusal converted buffer ≡ (0, converted ++ drop size buffer)
    unfolding handed_over
    handed_image e = rw (le-ltb (length buffer) size room, eq-eqb refusal 0 e)

    -- In either case the number is the refusal's.
    pub gives_refusal : (handed_over size refusal converted buffer).0 ≡ refusal
    gives_refusal = by (eqb refusal 0) refl
      where
        by : (t : Bool) → eqb refusal 0 ≡ t → (handed_over size refusal converted buffer).0 ≡ refusal
        by true is = let zero = eqb→eq refusal 0 (subst⁻¹ T is tt) in ap (λ (p : ℕ × List ℕ). p.0) (handed_image zero) ∙ sym zero
        by false is = ap (λ (p : ℕ × List ℕ). p.0) (handed_refusal (λ e. subst T (sym (eq-eqb refusal 0 e) ∙ is) tt))

  -- What is refused leaves the buffer as it was.
  pub refused_untouched : ((handed_over size refusal converted buffer).0 ≡ 0 → ⊥) → (handed_over size refusal converted buffer).1 ≡ buffer
  unfolding handed_over
  refused_untouched = by (ltb (length buffer) size) (eqb refusal 0)
    where
      handed : Bool → Bool → ℕ × List ℕ
      handed short taken = cond short (8, buffer) (cond taken (0, converted ++ drop size buffer) (refusal, buffer))

      by : (short taken : Bool) → ((handed short taken).0 ≡ 0 → ⊥) → (handed short taken).1 ≡ buffer
      by true taken other = refl
      by false true other = absurd (other refl)
      by false false other = refl

  -- 8: the buffer is too short. (No image gets 8 for what it is.)
  pub eight_exactly : (refusal ≡ 8 → ⊥) → ((handed_over size refusal converted buffer).0 ≡ 8) ↔ (length buffer < size)
  eight_exactly other = (λ e. by (ltb (length buffer) size) refl e, λ h. ap (λ (p : ℕ × List ℕ). p.0) (too_short h))
    where
      by : (t : Bool) → ltb (length buffer) size ≡ t → (handed_over size refusal converted buffer).0 ≡ 8 → length buffer < size
      by true is e = ltb→lt (length buffer) size (subst⁻¹ T is tt)
      by false is e = absurd (other (sym (gives_refusal (ltb-false (length buffer) size is)) ∙ e))

-- ---- Going back

by_tests : (fits keeps runs : Bool) → lowest 10 (not fits ∷ not keeps ∷ []) ≡ 0 → lowest 10 (not fits ∷ not keeps ∷ runs ∷ []) ≡ cond runs 12 0
by_tests true true runs e = refl
by_tests true false runs e = absurd (omega arith)
by_tests false keeps runs e = absurd (omega arith)

refused_by_tests : (fits keeps runs : Bool) → (lowest 10 (not fits ∷ not keeps ∷ []) ≡ 0 → ⊥)
    → lowest 10 (not fits ∷ not keeps ∷ runs ∷ []) ≡ lowest 10 (not fits ∷ not keeps ∷ [])
refused_by_tests true true runs other = absurd (other refl)
refused_by_tests true false runs other = refl
refused_by_tests false keeps runs other = refl

none_runs : (vs : List Voter) → some count_runs vs ≡ false → Each (λ (v : Voter). v.count ≡ 0) vs
unfolding some
none_runs [] e = tt
none_runs (v ∷ vs) e = by (eqb v.count 0) refl e (none_runs vs)
  where
    by : (t : Bool) → eqb v.count 0 ≡ t → (not t || some count_runs vs) ≡ false
        → (some count_runs vs ≡ false → Each (λ (w : Voter). w.count ≡ 0) vs)
        → (v.count ≡ 0) × Each (λ (w : Voter). w.count ≡ 0) vs
    by true is rest more = (eqb→eq v.count 0 (subst⁻¹ T is tt), more rest)
    by false is rest more = absurd (subst T rest tt)

all_are_0 : (vs : List Voter) → Each (λ (v : Voter). v.count ≡ 0) vs → some count_runs vs ≡ false
unfolding some
all_are_0 [] each = refl
all_are_0 (v ∷ vs) each = rw (eq-eqb v.count 0 each.0) (all_are_0 vs each.1)

module _ (image : List ℕ) where
  -- Where loading refuses, going back is refused alike ..
  pub back_of_refused : (refusal_of image ≡ 0 → ⊥) → back_refusal_of image ≡ refusal_of image
  unfolding refusal_of back_refusal_of
  back_of_refused = refused_by_tests (fits image) (rules_hold (loaded_at 0 image)) (some_count_runs image)

  -- .. and where it takes, by the counts.
  pub back_of_taken : refusal_of image ≡ 0 → back_refusal_of image ≡ cond (some_count_runs image) 12 0
  unfolding refusal_of back_refusal_of
  back_of_taken = by_tests (fits image) (rules_hold (loaded_at 0 image)) (some_count_runs image)

  pub none_then_all_0 : some_count_runs image ≡ false → AllCountsAre0 image
  unfolding some_count_runs
  none_then_all_0 = none_runs (loaded_at 0 image).voters

  pub all_0_then_none : AllCountsAre0 image → some_count_runs image ≡ false
  unfolding some_count_runs
  all_0_then_none = all_are_0 (loaded_at 0 image).voters

  some_then_not : some_count_runs image ≡ true → ¬ AllCountsAre0 image
  some_then_not is each = subst T (sym is ∙ all_0_then_none each) tt

  -- Every case by what loading says, and then by the counts.
  by_loading : (P : ℕ → Type 0)
      → (Taken image → AllCountsAre0 image → P 0)
      → (Taken image → ¬ AllCountsAre0 image → P 12)
      → ((¬ InRange image) → P 10)
      → (InRange image × (¬ KeepsRules (loaded_at 0 image)) → P 11)
      → P (back_refusal_of image)
  by_loading P zero twelve ten eleven = by (no_other image)
    where
      of_taken : refusal_of image ≡ 0 → (t : Bool) → some_count_runs image ≡ t → P (cond t 12 0)
      of_taken e true is = twelve (taken_holds image e) (some_then_not is)
      of_taken e false is = zero (taken_holds image e) (none_then_all_0 is)

      by : (refusal_of image ≡ 0) ⊎ (refusal_of image ≡ 10) ⊎ (refusal_of image ≡ 11) → P (back_refusal_of image)
      by (inl e) = subst⁻¹ P (back_of_taken e) (of_taken e (some_count_runs image) refl)
      by (inr (inl e)) = subst⁻¹ P (back_of_refused (λ z. omega (arith, z, e)) ∙ e) (ten ((ten_exactly image).0 e))
      by (inr (inr e)) = subst⁻¹ P (back_of_refused (λ z. omega (arith, z, e)) ∙ e) (eleven ((eleven_exactly image).0 e))

  -- Going back is possible exactly if the image is taken and all counts are 0.
  pub possible_exactly : (back_refusal_of image ≡ 0) ↔ (Taken image × AllCountsAre0 image)
  possible_exactly = (
    by_loading (λ n. n ≡ 0 → Taken image × AllCountsAre0 image)
        (λ taken all e. (taken, all)) (λ taken some e. absurd (omega arith)) (λ out e. absurd (omega arith)) (λ broken e. absurd (omega arith)),
    λ h. back_of_taken (holds_taken image h.0) ∙ ap (λ (t : Bool). cond t 12 0) (all_0_then_none h.1),
  )

  -- 10 and 11 are those of loading.
  pub back_ten_exactly : (back_refusal_of image ≡ 10) ↔ (¬ InRange image)
  back_ten_exactly = (
    by_loading (λ n. n ≡ 10 → ¬ InRange image)
        (λ taken all e. absurd (omega arith)) (λ taken some e. absurd (omega arith)) (λ out e. out) (λ broken e. absurd (omega arith)),
    λ out. let ten = (ten_exactly image).1 out in back_of_refused (λ z. omega (arith, z, ten)) ∙ ten,
  )

  pub back_eleven_exactly : (back_refusal_of image ≡ 11) ↔ (InRange image × (¬ KeepsRules (loaded_at 0 image)))
  back_eleven_exactly = (
    by_loading (λ n. n ≡ 11 → InRange image × (¬ KeepsRules (loaded_at 0 image)))
        (λ taken all e. absurd (omega arith)) (λ taken some e. absurd (omega arith)) (λ out e. absurd (omega arith)) (λ broken e. broken),
    λ broken. let eleven = (eleven_exactly image).1 broken in back_of_refused (λ z. omega (arith, z, eleven)) ∙ eleven,
  )

  -- 12 exactly if it is taken and some count is not 0.
  pub twelve_exactly : (back_refusal_of image ≡ 12) ↔ (Taken image × (¬ AllCountsAre0 image))
  twelve_exactly = (
    by_loading (λ n. n ≡ 12 → Taken image × (¬ AllCountsAre0 image))
        (λ taken all e. absurd (omega arith)) (λ taken some e. (taken, some)) (λ out e. absurd (omega arith)) (λ broken e. absurd (omega arith)),
    λ h. back_of_taken (holds_taken image h.0) ∙ ap (λ (t : Bool). cond t 12 0) (runs h.1 (some_count_runs image) refl),
  )
    where
      runs : (¬ AllCountsAre0 image) → (t : Bool) → some_count_runs image ≡ t → some_count_runs image ≡ true
      runs some true is = is
      runs some false is = absurd (some (none_then_all_0 is))

  not_8 : back_refusal_of image ≡ 8 → ⊥
  not_8 =
      by_loading (λ n. n ≡ 8 → ⊥)
      (λ taken all e. omega arith) (λ taken some e. omega arith) (λ out e. omega arith) (λ broken e. omega arith)

  loading_not_8 : refusal_of image ≡ 8 → ⊥
  loading_not_8 e = by (no_other image)
    where
      by : (refusal_of image ≡ 0) ⊎ (refusal_of image ≡ 10) ⊎ (refusal_of image ≡ 11) → ⊥
      by (inl z) = omega (arith, e, z)
      by (inr (inl z)) = omega (arith, e, z)
      by (inr (inr z)) = omega (arith, e, z)

-- ---- What runs

module _ (image buffer : List ℕ) where
  -- To the new form: 8 exactly if there is no room, before the image is looked at; with room the number of loading; refused, the buffer stays.
  pub to_new_eight_exactly : ((to_new_of image buffer).0 ≡ 8) ↔ (length buffer < new_size)
  unfolding to_new_of
  to_new_eight_exactly = eight_exactly new_size (refusal_of image) (in_new_form image) buffer (loading_not_8 image)

  pub to_new_gives : new_size ≤ length buffer → (to_new_of image buffer).0 ≡ refusal_of image
  unfolding to_new_of
  to_new_gives = gives_refusal new_size (refusal_of image) (in_new_form image) buffer

  pub to_new_refused : ((to_new_of image buffer).0 ≡ 0 → ⊥) → (to_new_of image buffer).1 ≡ buffer
  unfolding to_new_of
  to_new_refused = refused_untouched new_size (refusal_of image) (in_new_form image) buffer

  pub to_new_converts : new_size ≤ length buffer → Taken image → to_new_of image buffer ≡ (0, in_new_form image ++ drop new_size buffer)
  unfolding to_new_of
  to_new_converts room taken = handed_image new_size (refusal_of image) (in_new_form image) buffer room (holds_taken image taken)

  -- To the old form likewise, with room by the numbers above.
  pub to_old_eight_exactly : ((to_old_of image buffer).0 ≡ 8) ↔ (length buffer < old_size)
  unfolding to_old_of
  to_old_eight_exactly = eight_exactly old_size (back_refusal_of image) (in_old_form image) buffer (not_8 image)

  pub to_old_gives : old_size ≤ length buffer → (to_old_of image buffer).0 ≡ back_refusal_of image
  unfolding to_old_of
  to_old_gives = gives_refusal old_size (back_refusal_of image) (in_old_form image) buffer

  pub to_old_refused : ((to_old_of image buffer).0 ≡ 0 → ⊥) → (to_old_of image buffer).1 ≡ buffer
  unfolding to_old_of
  to_old_refused = refused_untouched old_size (back_refusal_of image) (in_old_form image) buffer

  pub to_old_converts : old_size ≤ length buffer → Taken image → AllCountsAre0 image
      → to_old_of image buffer ≡ (0, in_old_form image ++ drop old_size buffer)
  unfolding to_old_of
  to_old_converts room taken all =
      handed_image old_size (back_refusal_of image) (in_old_form image) buffer room ((possible_exactly image).1 (taken, all))
