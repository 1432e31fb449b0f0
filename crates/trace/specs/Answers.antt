-- What the reader's answers come to in document 01. For each answer of the code that is an enum a definition gives the number and the
-- values of each case ("Forms for each place"); the promises use these definitions.
-- Assumes nothing.
use Rattle.std.specs.Prelude.{ℕ, Option, Some, None, Result, Ok, Err}
use Rattle.common.specs.Answers.{Answer, gives, refuses}
use Rattle.refusals.specs.declared.Refusal.{Refusal}
use Rattle.refusals.specs.Numbers.{number_of}
use Rattle.trace.specs.declared.Row.{Row}
use Rattle.trace.specs.declared.Form.{Form}
use Rattle.trace.specs.Rows.{Parts}

-- A field that should be a number, one that should be three digits 0 or 1, and eighteen of these: what it bears, or 5, since the row
-- breaks the form.
abbrev pub read_says : {A : Type 0} → Option A → Answer A
read_says (Some x) = gives x
read_says None = refuses 5

-- A row in form, with its sample: its parts, or 5.
abbrev pub form_says : Option Form → Answer Parts
form_says (Some form) = gives (record { label = form.row.label; stamp = form.row.stamp; sample = form.sample })
form_says None = refuses 5

-- A row: its label and its stamp, or the refusal's number.
abbrev pub row_says : Result Row Refusal → Answer (ℕ × ℕ)
row_says (Ok row) = gives (row.label, row.stamp)
row_says (Err r) = refuses (number_of r)
