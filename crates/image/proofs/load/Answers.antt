-- `image::load` meets its contract: no image, a rule broken, and taken.
-- Assumes nothing.
use Rattle.std.proofs.Common.{List, ℕ, ◌≡◌, length, sym, ap, ◌∙◌}
use Rattle.forms.specs.Forms.{old_size}
use Rattle.controller.specs.declared.State.{State}
use Rattle.image.specs.Rules.{rules_hold}
use Rattle.image.specs.Images.{load_of}
use Rattle.image.proofs.EitherForm.{not_old, same_loading}
use Rattle.image.proofs.Faulty.{own_controller}
use Rattle.image.proofs.Exact.{fitting_is_new, fitting_is_ranged}
use Rattle.image.proofs.Loading.{load_taken, load_broken, load_unfit}
use Rattle.image.proofs.load.Goals as goal

pub fits-requires : goal.fits-requires
fits-requires c = λ old. not_old c.args.image.now (sym (ap length c.in_new_form-new.ensures) ∙ old)

pub returns-then-not-fits : goal.returns-then-not-fits
returns-then-not-fits c = λ before.
    sym (load_unfit before _ c.args.stamp (sym c.fits.ensures ∙ c.if-not-fits.true))
    ∙ ap (λ (bytes : List ℕ). load_of before bytes c.args.stamp) c.in_new_form-new.ensures
    ∙ same_loading c.args.image.now before c.args.stamp

pub state_in-state-requires : goal.state_in-state-requires
state_in-state-requires c =
    let other : length c.in_new_form-new.result.now ≡ old_size → ⊥ = λ old. not_old c.args.image.now (sym (ap length c.in_new_form-new.ensures) ∙ old) in
    let fits = sym c.fits.ensures ∙ c.if-not-fits.false in
    (fitting_is_new _ other fits, fitting_is_ranged _ other fits)

pub returns-then-not-hold : goal.returns-then-not-hold
returns-then-not-hold c = λ before.
    let other : length c.in_new_form-new.result.now ≡ old_size → ⊥ = λ old. not_old c.args.image.now (sym (ap length c.in_new_form-new.ensures) ∙ old) in
    let fits = sym c.fits.ensures ∙ c.if-not-fits.false in
    let own = c.state_in-state.ensures ∙ sym (own_controller _ (fitting_is_new _ other fits) c.args.stamp) in
    sym (load_broken before _ c.args.stamp fits (sym (c.hold.ensures ∙ ap rules_hold own) ∙ c.if-not-hold.true))
    ∙ ap (λ (bytes : List ℕ). load_of before bytes c.args.stamp) c.in_new_form-new.ensures
    ∙ same_loading c.args.image.now before c.args.stamp

pub returns : goal.returns
returns c = λ before.
    let other : length c.in_new_form-new.result.now ≡ old_size → ⊥ = λ old. not_old c.args.image.now (sym (ap length c.in_new_form-new.ensures) ∙ old) in
    let fits = sym c.fits.ensures ∙ c.if-not-fits.false in
    let own = c.state_in-state.ensures ∙ sym (own_controller _ (fitting_is_new _ other fits) c.args.stamp) in
    ap (λ (s : State). record { refusal = 0; state = s }) own
    ∙ sym (load_taken before _ c.args.stamp fits (sym (c.hold.ensures ∙ ap rules_hold own) ∙ c.if-not-hold.false))
    ∙ ap (λ (bytes : List ℕ). load_of before bytes c.args.stamp) c.in_new_form-new.ensures
    ∙ same_loading c.args.image.now before c.args.stamp
