-- What an answer comes to that is a value or a refusal: by the documents, a value or a number.
-- Assumes nothing.
use Rattle.std.specs.Prelude.{ℕ, Result, Ok, Err}
use Rattle.common.specs.Answers.{Answer, gives, refuses}
use Rattle.refusals.specs.declared.Refusal.{Refusal}
use Rattle.refusals.specs.Numbers.{number_of}

-- The value, or the refusal's number.
abbrev pub says : {A : Type 0} → Result A Refusal → Answer A
says (Ok x) = gives x
says (Err r) = refuses (number_of r)

-- 0 for a value, or the refusal's number.
abbrev pub code_of : {A : Type 0} → Result A Refusal → ℕ
code_of (Ok x) = 0
code_of (Err r) = number_of r
