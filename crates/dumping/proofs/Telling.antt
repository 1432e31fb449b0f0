-- What is written of a moment stands in front of the output buffer, where that has room for the head of a dump.
-- Assumes nothing.
use Rattle.std.proofs.Common.{◌≡◌, ℕ, ◌≤◌, Bool, true, false, List, length, refl, arith, le-ltb}
use Rattle.dump.specs.declared.Dump.{Dump}
use Rattle.dump.specs.Answers.{Wrote}
use Rattle.dump.specs.Writes.{moment_after, text_after, no_time, next_of}
use Rattle.dump.proofs.Lengths.{moment_length}
use Rattle.reading.specs.Fills.{in_front}
use Rattle.dumping.specs.Parts.{later}

-- What the dump's writer answers, without its refusal.
abbrev pub told_by : Wrote × List ℕ → (Dump × ℕ) × List ℕ
told_by a = ((a.0.dump, a.0.written), a.1)

-- A moment, where there is such a time and where there is none.
by_time : (t : Bool) (dump : Dump) (elapsed : ℕ) (values : List Bool) (out : List ℕ) → no_time dump elapsed ≡ t
    → length (text_after dump elapsed values) ≤ length out
    → told_by (next_of dump elapsed values out) ≡ in_front (later dump elapsed values) out
unfolding next_of later
by_time true dump elapsed values out e h = rw (le-ltb (length out) (length (text_after dump elapsed values)) h, e)
by_time false dump elapsed values out e h = rw (le-ltb (length out) (length (text_after dump elapsed values)) h, e)

pub told_next : (dump : Dump) (elapsed : ℕ) (values : List Bool) (out : List ℕ) → length values ≡ 26 → 1078 ≤ length out
    → told_by (next_of dump elapsed values out) ≡ in_front (later dump elapsed values) out
told_next dump elapsed values out wide h =
    by_time (no_time dump elapsed) dump elapsed values out refl (omega (arith, moment_length dump.values (moment_after dump elapsed values) wide))
