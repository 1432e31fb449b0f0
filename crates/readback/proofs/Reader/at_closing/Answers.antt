-- `readback::Reader::at_closing` meets its contract: another byte, the last one, and one before it.
-- Assumes nothing.
use mathlib.Core.Path.{sym, ◌∙◌}
use Rattle.dump.specs.Dumps.{closing_text, closing_length}
use Rattle.dump.proofs.Lines.{closing_length_lem}
use Rattle.readback.specs.declared.Place.TheVariants.{Closing, Line}
use Rattle.readback.specs.Bytes.{at_closing}
use Rattle.readback.proofs.FixedTexts.{another_byte, last_byte, next_byte}
use Rattle.readback.proofs.Reader.at_closing.Goals as goal

pub returns-in-None : goal.returns-in-None
unfolding at_closing
returns-in-None c =
    let a = c.args in
    c.bad.ensures
    ∙ another_byte closing_text Closing Line a.self a.at a.b closing_length closing_length_lem (rw c.closing.ensures at c.in-None.ensures)

pub returns-in-Some-eq5 : goal.returns-in-Some-eq5
unfolding at_closing
returns-in-Some-eq5 c =
    let a = c.args in
    let there = rw c.closing.ensures at c.in-Some-eq5.ensures in
    c.moved.ensures
    ∙ last_byte closing_text Closing Line a.self a.at a.b closing_length closing_length_lem there.1 (sym c.in-Some-eq5.field-0-test ∙ there.0)

pub returns-in-Some : goal.returns-in-Some
unfolding at_closing
returns-in-Some c =
    let a = c.args in
    let there = rw c.closing.ensures at c.in-Some.ensures in
    c.moved-in-Some.ensures
    ∙ next_byte closing_text Closing Line a.self a.at a.b closing_length closing_length_lem c.in-Some.next there.1 there.0 c.in-Some.next-test.1
