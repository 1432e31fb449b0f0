-- A controller by itself that is given the sensors which the joined rig shows behind each step answers as the rig's own does, refused steps among
-- them: so what `replay` makes of these sensors is what the rig did.
-- Assumes nothing.
use Rattle.std.proofs.Common.{◌≡◌, ℕ, Bool, true, false, cond, eqb, ltb, List, length, sym, refl, ap, ◌∙◌, eq-eqb, ne_eqb, eqb-true}
use mathlib.Core.Path.{subst⁻¹}
use borrow.Author.Tests.{eqb-false}
use Rattle.controller.specs.declared.State.{State}
use Rattle.controller.specs.Stages.{elapsed_of, accepted}
use Rattle.controller.specs.Steps.{some_over_one, refusal_at as controller_refusal_at, step_at as controller_step_at}
use Rattle.controller.specs.Shows.{general_ev}
use Rattle.joined.specs.declared.Given.{Given}
use Rattle.joined.specs.declared.Rig.{Rig}
use Rattle.joined.specs.Drives.{some_bad}
use Rattle.joined.specs.Rigs.{start_cylinders, start_of, elapsed_at, since_move, moved_at, read_at, step_at, refusal_at, accepted_rig, ShowsSensors}
use Rattle.orders.specs.Timing.{oldest}
use Rattle.joined.proofs.Steps.{sample_is_well_formed, refusals_exactly, refused_keeps, accepted_is}

-- ---- Every rig that is handed out shows sensors

pub start_shows : (stamp : ℕ) → ShowsSensors (start_of stamp)
unfolding start_of
start_shows stamp =
    let fine = sample_is_well_formed true oldest false start_cylinders in record { whole = fine.0; bits = fine.1 }

accepted_shows : (rig : Rig) (stamp : ℕ) (down : Bool) (givens : List Given) → ShowsSensors (accepted_rig rig stamp down givens)
unfolding accepted_rig read_at
accepted_shows rig stamp down givens =
    let fine = sample_is_well_formed down (since_move rig stamp down) (general_ev rig.controller) (moved_at rig stamp givens) in
    record { whole = fine.0; bits = fine.1 }

-- ---- The controller's answer to sensors of the form

-- It goes by the stamp alone.
by_the_stamp : (limit : ℕ) (state : State) (stamp : ℕ) (sample : List ℕ) → length sample ≡ 54 → some_over_one sample ≡ false
    → controller_refusal_at limit state stamp sample ≡ cond (eqb (elapsed_of state.stamp stamp) 0) 3 (cond (ltb limit (elapsed_of state.stamp stamp)) 4 0)
unfolding controller_refusal_at
by_the_stamp limit state stamp sample whole bits = simp (whole, bits)

answer_is : (limit : ℕ) (state : State) (stamp : ℕ) (sample : List ℕ) (refusal : ℕ) → controller_refusal_at limit state stamp sample ≡ refusal
    → controller_step_at limit state stamp sample ≡ record { refusal = refusal; state = cond (eqb refusal 0) (accepted state stamp sample) state }
unfolding controller_step_at
answer_is limit state stamp sample refusal e =
    ap (λ (n : ℕ). record { refusal = n; state = cond (eqb n 0) (accepted state stamp sample) state }) e

module _ (limit : ℕ) (rig : Rig) (stamp : ℕ) (down : Bool) (givens : List Given) (shows : ShowsSensors rig) where
  -- By what the rig's step was: accepted, or refused.
  by_answer : (P : Rig → Type 0) → ((step_at limit rig stamp down givens).refusal ≡ 0 → P (accepted_rig rig stamp down givens))
      → (¬ ((step_at limit rig stamp down givens).refusal ≡ 0) → P rig)
      → P (step_at limit rig stamp down givens).rig
  by_answer P taken refused = by (eqb (step_at limit rig stamp down givens).refusal 0) refl
    where
      by : (is_taken : Bool) → eqb (step_at limit rig stamp down givens).refusal 0 ≡ is_taken → P (step_at limit rig stamp down givens).rig
      by true e =
          let zero = eqb-true (step_at limit rig stamp down givens).refusal 0 e in
          subst⁻¹ P (accepted_is limit rig stamp down givens zero).after (taken zero)
      by false e =
          let other = eqb-false (step_at limit rig stamp down givens).refusal 0 e in
          subst⁻¹ P (refused_keeps limit rig stamp down givens other) (refused other)

  pub step_shows : ShowsSensors (step_at limit rig stamp down givens).rig
  step_shows = by_answer ShowsSensors (λ taken. accepted_shows rig stamp down givens) (λ refused. shows)

  module _ (fine : some_bad givens rig.cylinders ≡ false) where
    -- Its refusal is the rig's.
    same_refusal : (sample : List ℕ) → length sample ≡ 54 → some_over_one sample ≡ false
        → controller_refusal_at limit rig.controller stamp sample ≡ (step_at limit rig stamp down givens).refusal
    unfolding refusal_at
    same_refusal sample whole bits =
        by_the_stamp limit rig.controller stamp sample whole bits
        ∙ sym (refusals_exactly limit rig stamp down givens ∙ ap (λ (bad : Bool). cond bad 13 (cond (eqb (elapsed_at rig stamp) 0) 3 (cond (ltb limit (elapsed_at rig stamp)) 4 0))) fine)

    -- Its whole answer is.
    pub alone : controller_step_at limit rig.controller stamp (step_at limit rig stamp down givens).rig.sample
        ≡ record { refusal = (step_at limit rig stamp down givens).refusal; state = (step_at limit rig stamp down givens).rig.controller }
    unfolding accepted_rig
    alone =
        by_answer (λ (later : Rig). controller_step_at limit rig.controller stamp later.sample
        ≡ record { refusal = (step_at limit rig stamp down givens).refusal; state = later.controller })
        taken_by_itself
        refused_by_itself
      where
        taken_by_itself : (step_at limit rig stamp down givens).refusal ≡ 0
            → controller_step_at limit rig.controller stamp (accepted_rig rig stamp down givens).sample
            ≡ record { refusal = (step_at limit rig stamp down givens).refusal; state = (accepted_rig rig stamp down givens).controller }
        taken_by_itself taken =
            let shown = accepted_shows rig stamp down givens in
            let sample : List ℕ = (accepted_rig rig stamp down givens).sample in
            answer_is limit rig.controller stamp sample (step_at limit rig stamp down givens).refusal (same_refusal sample shown.whole shown.bits)
            ∙ ap (λ (is_taken : Bool). record { refusal = (step_at limit rig stamp down givens).refusal; state = cond is_taken (accepted rig.controller stamp sample) rig.controller })
            (eq-eqb _ _ taken)

        refused_by_itself : ¬ ((step_at limit rig stamp down givens).refusal ≡ 0)
            → controller_step_at limit rig.controller stamp rig.sample
            ≡ record { refusal = (step_at limit rig stamp down givens).refusal; state = rig.controller }
        refused_by_itself refused =
            answer_is limit rig.controller stamp rig.sample (step_at limit rig stamp down givens).refusal (same_refusal rig.sample shows.whole shows.bits)
            ∙ ap (λ (is_taken : Bool). record { refusal = (step_at limit rig stamp down givens).refusal; state = cond is_taken (accepted rig.controller stamp rig.sample) rig.controller })
            (ne_eqb _ _ refused)
