-- An answer is known by what it says (specs/Answers.antt).
-- Assumes nothing.
use Prim.Native.Nat.{ℕ}
use mathlib.Core.Path.{◌≡◌, sym, ap}
use Rattle.std.specs.Prelude.{Result, Ok, Err}
use Rattle.refusals.specs.declared.Refusal.{Refusal}
use Rattle.refusals.proofs.Laws.{one_number, no_zero}
use Rattle.dump.specs.declared.Dump.{Dump}
use Rattle.dump.specs.declared.Wrote.{Wrote as Written}
use Rattle.dump.specs.Answers.{Wrote, wrote_says}

abbrev written_of : Dump → ℕ → Written
written_of dump written = record { dump = dump; written = written }

pub said_once : (dump : Dump) (x y : Result Written Refusal) → wrote_says dump x ≡ wrote_says dump y → x ≡ y
said_once dump (Ok w) (Ok v) e =
    let after = ap (λ (a : Wrote). a.dump) e in
    let written = ap (λ (a : Wrote). a.written) e in
    let same : written_of w.dump w.written ≡ written_of v.dump v.written = cc in
    ap Ok same
said_once dump (Ok w) (Err r) e = absurd (no_zero r (sym (ap (λ (a : Wrote). a.refusal) e)))
said_once dump (Err r) (Ok w) e = absurd (no_zero r (ap (λ (a : Wrote). a.refusal) e))
said_once dump (Err r) (Err s) e = ap Err (one_number r s (ap (λ (a : Wrote). a.refusal) e))
