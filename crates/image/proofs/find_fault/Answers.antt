-- `image::find_fault` meets its contract: another length, an item out of its range, a rule broken, and nothing.
-- Assumes nothing.
use Rattle.std.proofs.Common.{rules, Some, ℕ, ◌≡◌, sym, ap, ◌∙◌, arith, length}
use Rattle.std.specs.Option.{option_map}
use Rattle.image.specs.declared.Fault.TheVariants.{Item, Rule}
use Rattle.image.specs.Faults.{fault_of}
use Rattle.image.proofs.EitherForm.{not_old, same_fault}
use Rattle.image.proofs.Faulty.{items_ranged, fault_length, fault_item, fault_last}
use Rattle.image.proofs.find_fault.Goals as goal

pub returns-then-new-ne-SIZE : goal.returns-then-new-ne-SIZE
returns-then-new-ne-SIZE c =
    let new = c.in_new_form-new.ensures in
    sym (fault_length _ (λ old. not_old c.args.image.now (sym (ap length new) ∙ old)) c.if-new-ne-SIZE.true) ∙ ap fault_of new ∙ same_fault c.args.image.now

pub returns-in-Some : goal.returns-in-Some
returns-in-Some c =
    let new = c.in_new_form-new.ensures in
    let k = c.in-Some.ensures in
    ap (λ (n : ℕ). Some (Item n)) k.0
    ∙ sym (fault_item _ c.if-new-ne-SIZE.false (λ all. omega (arith, k.0, k.1, all)))
    ∙ ap fault_of new
    ∙ same_fault c.args.image.now

pub state_in-requires : goal.state_in-requires
state_in-requires c = let long = c.if-new-ne-SIZE.false in (long, items_ranged _ long c.in_default.ensures)

pub returns : goal.returns
returns c =
    let new = c.in_new_form-new.ensures in
    let told : c.map.result ≡ option_map Rule c.first_broken.result = search rules in
    let place = rw c.state_in.ensures at c.first_broken.ensures in
    told ∙ fault_last _ c.if-new-ne-SIZE.false c.in_default.ensures _ place ∙ ap fault_of new ∙ same_fault c.args.image.now
