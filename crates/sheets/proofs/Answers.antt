-- An answer is known by what it says (specs/Answers.antt).
-- Assumes nothing.
use Rattle.std.proofs.Common.{◌≡◌, ℕ, Result, Ok, Err, sym, ap}
use Rattle.refusals.specs.declared.Refusal.{Refusal}
use Rattle.refusals.proofs.Laws.{one_number, no_zero}
use Rattle.sheets.specs.declared.Sheet.{Sheet}
use Rattle.sheets.specs.declared.Took.{Took as Given}
use Rattle.sheets.specs.Answers.{Took, took_says}

abbrev given_of : Sheet → ℕ → ℕ → Given
given_of sheet used written = record { sheet = sheet; used = used; written = written }

pub said_once : (s : Sheet) (x y : Result Given Refusal) → took_says s x ≡ took_says s y → x ≡ y
said_once s (Ok t) (Ok u) e =
    let sheet = ap (λ (a : Took). a.sheet) e in
    let used = ap (λ (a : Took). a.used) e in
    let written = ap (λ (a : Took). a.written) e in
    let same : given_of t.sheet t.used t.written ≡ given_of u.sheet u.used u.written = cc in
    ap Ok same
said_once s (Ok t) (Err r) e = absurd (no_zero r (sym (ap (λ (a : Took). a.refusal) e)))
said_once s (Err r) (Ok t) e = absurd (no_zero r (ap (λ (a : Took). a.refusal) e))
said_once s (Err q) (Err r) e = ap Err (one_number q r (ap (λ (a : Took). a.refusal) e))
