-- An answer of a call is known by what it says (specs/Answers.antt).
-- Assumes nothing.
use Prim.Native.Nat.{ℕ}
use mathlib.Core.Bool.{true≢false, false≢true}
use mathlib.Core.Path.{◌≡◌, sym, ap}
use Rattle.std.specs.Prelude.{Option, Some, None, Result, Ok, Err}
use Rattle.refusals.proofs.Laws.{one_number, no_zero}
use Rattle.refusals.specs.declared.Refusal.{Refusal}
use Rattle.readback.specs.declared.Reader.{Reader}
use Rattle.readback.specs.declared.Took.{Took as Given}
use Rattle.readback.specs.declared.Refused.{Refused}
use Rattle.readback.specs.Answers.{Took, is_given, time_given, took_says}

moment_once : (m n : Option ℕ) → is_given m ≡ is_given n → time_given m ≡ time_given n → m ≡ n
moment_once (Some a) (Some b) e f = cc
moment_once (Some a) None e f = absurd (true≢false e)
moment_once None (Some b) e f = absurd (false≢true e)
moment_once None None e f = cc

abbrev took_of : Option ℕ → ℕ → Reader → Given
took_of moment used reader = record { moment = moment; used = used; reader = reader }

abbrev refused_of : Refusal → ℕ → Refused
refused_of refusal used = record { refusal = refusal; used = used }

pub said_once : (r : Reader) (x y : Result Given Refused) → took_says r x ≡ took_says r y → x ≡ y
said_once r (Ok t) (Ok u) e =
    let moment = moment_once t.moment u.moment (ap (λ (a : Took). a.given) e) (ap (λ (a : Took). a.time) e) in
    let used = ap (λ (a : Took). a.used) e in
    let reader = ap (λ (a : Took). a.reader) e in
    let same : took_of t.moment t.used t.reader ≡ took_of u.moment u.used u.reader = cc in
    ap Ok same
said_once r (Ok t) (Err f) e = absurd (no_zero f.refusal (sym (ap (λ (a : Took). a.refusal) e)))
said_once r (Err f) (Ok u) e = absurd (no_zero f.refusal (ap (λ (a : Took). a.refusal) e))
said_once r (Err f) (Err g) e =
    let refusal = one_number f.refusal g.refusal (ap (λ (a : Took). a.refusal) e) in
    let used = ap (λ (a : Took). a.used) e in
    let same : refused_of f.refusal f.used ≡ refused_of g.refusal g.used = cc in
    ap Err same
