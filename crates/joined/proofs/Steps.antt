-- What a step of the joined rig comes to: which number it gets, exactly; that a refused one leaves the rig as it was, and an accepted one is the
-- controller's own step on the sensors that were read.
-- Assumes nothing.
use Rattle.std.proofs.Common.{◌≡◌, ℕ, Bool, true, false, cond, T, eqb, ltb, List, length, sym, refl, ap, ◌∙◌, arith, eqb→eq, ltb-false, eq-eqb, ne_eqb}
use borrow.Author.Tests.{eqb-false}
use Rattle.common.specs.Bits.{bit}
use Rattle.common.specs.Lists.{some}
use Rattle.controller.specs.Answers.{Answer}
use Rattle.controller.specs.Samples.{agreeing}
use Rattle.controller.specs.Steps.{some_over_one, refusal_at as controller_refusal_at, step_at as controller_step_at}
use Rattle.cylinder.specs.declared.Cylinder.{Cylinder}
use Rattle.joined.specs.declared.Given.{Given}
use Rattle.joined.specs.declared.Rig.{Rig}
use Rattle.joined.specs.Answers.{Stepped}
use Rattle.joined.specs.Drives.{some_bad}
use Rattle.joined.specs.Sensors.{seen_out, seen_in, sensors_of, sample_of}
use Rattle.joined.specs.Rigs.{elapsed_at, read_at, kept, answered_by, step_at, refusal_at, accepted_rig, Accepted}

-- ---- The sensors

bit_at_most_one : (b : Bool) → ltb 1 (bit b) ≡ false
bit_at_most_one true = refl
bit_at_most_one false = refl

-- "That it never refuses them is proved": the sensors that are read are 54 bytes, none over 1.
pub sample_is_well_formed : (down : Bool) (since : ℕ) (pressure : Bool) (cs : List Cylinder)
    → (length (sample_of down since pressure cs) ≡ 54) × (some_over_one (sample_of down since pressure cs) ≡ false)
unfolding sample_of sensors_of agreeing some_over_one some seen_out seen_in
sample_is_well_formed down since pressure cs = (refl, simp bit_at_most_one)

-- ---- One step

of_cond : {A B : Type 0} (f : A → B) (t : Bool) (x y : A) → f (cond t x y) ≡ cond t (f x) (f y)
of_cond f true x y = refl
of_cond f false x y = refl

zero_or_itself : (n : ℕ) → cond (eqb n 0) 0 n ≡ n
zero_or_itself n = by (eqb n 0) (eqb→eq n 0)
  where
    by : (t : Bool) → (T t → n ≡ 0) → cond t 0 n ≡ n
    by true is = sym (is tt)
    by false is = refl

none_holds : (bad zero over : Bool) → ◌≡◌ {A = ℕ} (cond bad 13 (cond zero 3 (cond over 4 0))) 0
    → (bad ≡ false) × (zero ≡ false) × (over ≡ false)
none_holds true zero over h = absurd (omega arith)
none_holds false true over h = absurd (omega arith)
none_holds false false true h = absurd (omega arith)
none_holds false false false h = (refl, refl, refl)

module _ (limit : ℕ) (rig : Rig) (stamp : ℕ) (down : Bool) (givens : List Given) where
  bad : Bool
  bad = some_bad givens rig.cylinders

  read : Rig
  read = read_at rig stamp down givens

  answer : Answer
  answer = controller_step_at limit rig.controller stamp read.sample

  -- The controller never refuses the sensors: what it refuses is the stamp, with 3 or 4.
  never_refuses_the_sensors : answer.refusal ≡ cond (eqb (elapsed_at rig stamp) 0) 3 (cond (ltb limit (elapsed_at rig stamp)) 4 0)
  unfolding answer read read_at controller_step_at controller_refusal_at
  never_refuses_the_sensors =
      let fine : (length read.sample ≡ 54) × (some_over_one read.sample ≡ false) = sample_is_well_formed _ _ _ _ in
      simp (fine.0, fine.1)

  answered_number : (answered_by rig read answer).refusal ≡ answer.refusal
  unfolding answered_by
  answered_number = of_cond (λ (s : Stepped). s.refusal) (eqb answer.refusal 0) _ _ ∙ zero_or_itself answer.refusal

  -- "Refusals: 13 .., before 3 and 4": exactly so, so the controller never refuses the sensors with 1 or 2.
  pub refusals_exactly : (step_at limit rig stamp down givens).refusal ≡ refusal_at limit rig stamp givens
  unfolding step_at refusal_at bad read answer
  refusals_exactly =
      of_cond (λ (s : Stepped). s.refusal) bad (kept 13 rig) (answered_by rig read answer)
      ∙ ap (cond bad 13) (answered_number ∙ never_refuses_the_sensors)

  -- "Nothing moves then": a refused step leaves the rig as it was, whole.
  pub refused_keeps : ¬ ((step_at limit rig stamp down givens).refusal ≡ 0) → (step_at limit rig stamp down givens).rig ≡ rig
  unfolding step_at answered_by bad read answer
  refused_keeps is_refused = by bad is_refused
    where
      by : (t : Bool) → ¬ (◌≡◌ {A = ℕ} (cond {A = Stepped} t (kept 13 rig) (answered_by rig read answer)).refusal 0)
          → (cond {A = Stepped} t (kept 13 rig) (answered_by rig read answer)).rig ≡ rig
      by true refused = refl
      by false refused = simp (ne_eqb answer.refusal 0 (λ e. refused (answered_number ∙ e)))

  -- An accepted step: none of the six is bad, elapsed is 1 to the limit, and the rig after it is the one that was moved and read, with the
  -- controller after its own step on the sensors.
  pub accepted_is : (step_at limit rig stamp down givens).refusal ≡ 0 → Accepted limit rig stamp down givens
  unfolding step_at refusal_at accepted_rig bad read answer answered_by controller_step_at
  accepted_is is_accepted =
      let elapsed : ℕ = elapsed_at rig stamp in
      let none = none_holds bad (eqb elapsed 0) (ltb limit elapsed) (sym refusals_exactly ∙ is_accepted) in
      let taken : answer.refusal ≡ 0 = never_refuses_the_sensors ∙ simp (none.1, none.2) in
      record {
        none_bad = none.0;
        later = omega (arith, eqb-false elapsed 0 none.1);
        in_time = ltb-false limit elapsed none.2;
        after = simp (none.0, eq-eqb answer.refusal 0 taken);
      }
