-- No two refusals have one number, and none has 0; so a result is known by the value or the number that it says.
-- Assumes nothing.
use Rattle.std.specs.Prelude.{ℕ, Result, Ok, Err, ◌≡◌, ◌-◌, [], ◌∷◌, slice_index_or, refl}
use Rattle.std.proofs.Common.{sym, ◌∙◌, ap}
use Rattle.std.specs.Result.{result_unwrap_or}
use Rattle.refusals.specs.declared.Refusal.{Refusal}
use Rattle.refusals.specs.declared.Refusal.TheVariants.{SampleLength, ByteOverOne, NoneElapsed, LimitElapsed, Form, RowLength, Label, Room, Dump, Range, Rule, OldForm, Fraction}
use Rattle.refusals.specs.Numbers.{number_of}
use Rattle.refusals.specs.Answers.{says, code_of}

-- The refusal that has a number: the one at its place in their order.
abbrev refusal_at : ℕ → Refusal
refusal_at n =
    slice_index_or
    (SampleLength ∷ ByteOverOne ∷ NoneElapsed ∷ LimitElapsed ∷ Form ∷ RowLength ∷ Label ∷ Room ∷ Dump ∷ Range ∷ Rule ∷ OldForm ∷ Fraction ∷ [])
    (n - 1)
    Form

numbered : (r : Refusal) → refusal_at (number_of r) ≡ r
numbered SampleLength = refl
numbered ByteOverOne = refl
numbered NoneElapsed = refl
numbered LimitElapsed = refl
numbered Form = refl
numbered RowLength = refl
numbered Label = refl
numbered Room = refl
numbered Dump = refl
numbered Range = refl
numbered Rule = refl
numbered OldForm = refl
numbered Fraction = refl

pub one_number : (r s : Refusal) → number_of r ≡ number_of s → r ≡ s
one_number r s e = sym (numbered r) ∙ ap refusal_at e ∙ numbered s

pub no_zero : (r : Refusal) → number_of r ≡ 0 → ⊥
no_zero SampleLength e = cc
no_zero ByteOverOne e = cc
no_zero NoneElapsed e = cc
no_zero LimitElapsed e = cc
no_zero Form e = cc
no_zero RowLength e = cc
no_zero Label e = cc
no_zero Room e = cc
no_zero Dump e = cc
no_zero Range e = cc
no_zero Rule e = cc
no_zero OldForm e = cc
no_zero Fraction e = cc

pub said_once : {A : Type 0} (x y : Result A Refusal) → says x ≡ says y → x ≡ y
said_once (Ok x) (Ok y) e = cc
said_once (Ok x) (Err r) e = absurd (cc)
said_once (Err r) (Ok y) e = absurd (cc)
said_once (Err r) (Err s) e = let n : number_of r ≡ number_of s = cc in ap (λ (q : Refusal). Err q) (one_number r s n)

-- So it is by its number and the value that is there after it: the one that it bears, or the one before it.
pub left_once : {A : Type 0} (before : A) (x y : Result A Refusal) → code_of x ≡ code_of y → result_unwrap_or x before ≡ result_unwrap_or y before
    → x ≡ y
left_once before (Ok x) (Ok y) e f = ap (λ (a : _). Ok a) f
left_once before (Ok x) (Err r) e f = absurd (no_zero r (sym e))
left_once before (Err r) (Ok y) e f = absurd (no_zero r e)
left_once before (Err r) (Err s) e f = ap (λ (q : Refusal). Err q) (one_number r s e)

-- Where there is no value, by its number.
pub coded_once : (x y : Result (Unit {0}) Refusal) → code_of x ≡ code_of y → x ≡ y
coded_once (Ok x) (Ok y) e = refl
coded_once (Ok x) (Err r) e = absurd (no_zero r (sym e))
coded_once (Err r) (Ok y) e = absurd (no_zero r e)
coded_once (Err r) (Err s) e = ap (λ (q : Refusal). Err q) (one_number r s e)
