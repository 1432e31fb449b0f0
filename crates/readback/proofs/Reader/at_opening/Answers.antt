-- `readback::Reader::at_opening` meets its contract: another byte, the last one, and one before it.
-- Assumes nothing.
use mathlib.Core.Path.{sym, ◌∙◌}
use Rattle.dump.specs.Dumps.{opening_text, opening_length}
use Rattle.dump.proofs.Lines.{opening_length_lem}
use Rattle.readback.specs.declared.Place.TheVariants.{Opening, FirstValue}
use Rattle.readback.specs.Bytes.{at_opening}
use Rattle.readback.proofs.FixedTexts.{another_byte, last_byte, next_byte}
use Rattle.readback.proofs.Reader.at_opening.Goals as goal

pub returns-in-None : goal.returns-in-None
unfolding at_opening
returns-in-None c =
    let a = c.args in
    c.bad.ensures
    ∙ another_byte opening_text Opening FirstValue a.self a.at a.b opening_length opening_length_lem (rw c.requires at c.in-None.ensures)

pub returns-in-Some-eq995 : goal.returns-in-Some-eq995
unfolding at_opening
returns-in-Some-eq995 c =
    let a = c.args in
    let there = rw c.requires at c.in-Some-eq995.ensures in
    c.moved.ensures
    ∙ last_byte opening_text Opening FirstValue a.self a.at a.b opening_length opening_length_lem there.1 (sym c.in-Some-eq995.field-0-test ∙ there.0)

pub returns-in-Some : goal.returns-in-Some
unfolding at_opening
returns-in-Some c =
    let a = c.args in
    let there = rw c.requires at c.in-Some.ensures in
    c.moved-in-Some.ensures
    ∙ next_byte opening_text Opening FirstValue a.self a.at a.b opening_length opening_length_lem c.in-Some.next there.1 there.0 c.in-Some.next-test.1
