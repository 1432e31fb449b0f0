-- What is written in all, over every sequence of calls, refused ones among them, is the dump of the moments that were taken; and
-- their times rise from 0 and stay below 2 ^ 64. By induction over the calls.
-- Assumes nothing.
use Prim.Native.Nat.{ℕ, ◌+◌, ◌^◌, ◌<◌}
use native.Mathlib.Omega.{arith}
use mathlib.Core.Bool.{Bool, true, false, cond, ◌||◌}
use mathlib.Core.List.{List, [], ◌∷◌, ◌++◌}
use mathlib.Core.Path.{◌≡◌, refl, ap}
use borrow.Author.Tests.{eqb-false, leb-false}
use lib.Dec.{eqb, leb, ltb}
use lib.ListN.{length}
use lib.Seq.{take-append_seam}
use Rattle.dump.specs.declared.Dump.{Dump}
use Rattle.dump.specs.Wires.{wires}
use Rattle.dump.specs.Dumps.{RisesFrom, Rising, head_text, later_text, dump_of}
use Rattle.dump.specs.Writes.{refused, in_front, placed, starts_with, start_of, text_after, no_time, next_of}
use Rattle.dump.specs.Runs.{Call, AllWires, wrote, written_in_all, taken}

-- The text of a call.
abbrev text_of : Dump → Call → List ℕ
text_of dump call = text_after dump call.elapsed call.values

-- ---- What is refused

-- 8 exactly if the buffer is shorter than what would be written; then 9 exactly if there is no such time.
pub eight_then_nine : (dump : Dump) (elapsed : ℕ) (values : List Bool) (buffer : List ℕ)
    → (next_of dump elapsed values buffer).0.refusal
    ≡ cond (ltb (length buffer) (length (text_after dump elapsed values))) 8 (cond (no_time dump elapsed) 9 0)
unfolding next_of
eight_then_nine dump elapsed values buffer =
    by_tests (ltb (length buffer) (length (text_after dump elapsed values))) (no_time dump elapsed) where
      by_tests : (short late : Bool)
          → (cond short (refused 8 dump, buffer)
          (cond late (refused 9 dump, buffer)
          (in_front (record { time = dump.time + elapsed; values = values }) (text_after dump elapsed values) buffer))).0.refusal
          ≡ cond short 8 (cond late 9 0)
      by_tests true late = refl
      by_tests false true = refl
      by_tests false false = refl

-- ---- What is written

module _ (dump : Dump) (call : Call) (calls : List Call) where
  -- By whether there is room, and such a time.
  by_tests : (late short : Bool) → no_time dump call.elapsed ≡ late → ltb (length call.out) (length (text_of dump call)) ≡ short
      → ((d : Dump) → written_in_all d calls ≡ later_text d.values (taken d calls))
      → written_in_all dump (call ∷ calls) ≡ later_text dump.values (taken dump (call ∷ calls))
  unfolding written_in_all taken next_of later_text
  by_tests late true e f on = rw f (on dump)
  by_tests true false e f on = rw (f, e) (on dump)
  by_tests false false e f on =
      rw (e, f, take-append_seam (text_of dump call) _)
      (ap (λ (l : List ℕ). text_of dump call ++ l) (on (record { time = dump.time + call.elapsed; values = call.values })))

pub later_written : (dump : Dump) (calls : List Call) → written_in_all dump calls ≡ later_text dump.values (taken dump calls)
unfolding written_in_all taken later_text
later_written dump [] = refl
later_written dump (call ∷ calls) = by_tests dump call calls _ _ refl refl (λ d. later_written d calls)

started : (values : List Bool) (out : List ℕ) (calls : List Call) (short : Bool)
    → ltb (length out) (length (head_text values)) ≡ short
    → (start_of values out).0.refusal ≡ 0
    → wrote (start_of values out) ++ written_in_all (start_of values out).0.dump calls
    ≡ dump_of (record { time = 0; values = values } ∷ taken (starts_with values) calls)
unfolding start_of placed dump_of
started values out calls true e r = let z : ◌≡◌ {A = ℕ} 8 0 = rw e at r in absurd (omega arith)
started values out calls false e r =
    rw (e, take-append_seam (head_text values) _)
    (ap (λ (l : List ℕ). head_text values ++ l) (later_written (starts_with values) calls))

-- However many calls follow the start, and whatever they ask and lend, what is written in all is the dump of the moments taken.
pub dumped : (values : List Bool) (out : List ℕ) (calls : List Call)
    → (start_of values out).0.refusal ≡ 0
    → wrote (start_of values out) ++ written_in_all (start_of values out).0.dump calls
    ≡ dump_of (record { time = 0; values = values } ∷ taken (starts_with values) calls)
dumped values out calls r = started values out calls (ltb (length out) (length (head_text values))) refl r

-- ---- The times

-- A time that is none of the refused is later, and below 2 ^ 64.
later : (time elapsed : ℕ) (none past : Bool) → eqb elapsed 0 ≡ none → leb (2 ^ 64) (time + elapsed) ≡ past → (none || past) ≡ false
    → (time < time + elapsed) × (time + elapsed < 2 ^ 64)
later time elapsed true past f g h = let z : ◌≡◌ {A = ℕ} 0 1 = cc in absurd (omega arith)
later time elapsed false true f g h = let z : ◌≡◌ {A = ℕ} 0 1 = cc in absurd (omega arith)
later time elapsed false false f g h =
    let some_ms = eqb-false elapsed 0 f in (omega arith, leb-false (2 ^ 64) (time + elapsed) g)

in_time_lem : (dump : Dump) (call : Call) → no_time dump call.elapsed ≡ false
    → (dump.time < dump.time + call.elapsed) × (dump.time + call.elapsed < 2 ^ 64)
in_time_lem dump call e = later dump.time call.elapsed _ _ refl refl e

module _ (dump : Dump) (call : Call) (calls : List Call) (wide : length call.values ≡ wires) where
  rises_by : (late short : Bool) → no_time dump call.elapsed ≡ late → ltb (length call.out) (length (text_of dump call)) ≡ short
      → ((d : Dump) → RisesFrom d.time (taken d calls))
      → RisesFrom dump.time (taken dump (call ∷ calls))
  unfolding taken next_of
  rises_by late true e f on = rw f (on dump)
  rises_by true false e f on = rw (f, e) (on dump)
  rises_by false false e f on = rw (e, f) ((in_time_lem dump call e).0, (in_time_lem dump call e).1, wide, on (record { time = dump.time + call.elapsed; values = call.values }))

-- The times of the moments taken rise, and stay below 2 ^ 64.
pub later_rise : (dump : Dump) (calls : List Call) → AllWires calls → RisesFrom dump.time (taken dump calls)
unfolding taken
later_rise dump [] wide = Prim.tt
later_rise dump (call ∷ calls) wide = rises_by dump call calls wide.0 _ _ refl refl (λ d. later_rise d calls wide.1)

pub all_rise : (values : List Bool) (calls : List Call) → length values ≡ wires → AllWires calls
    → Rising (record { time = 0; values = values } ∷ taken (starts_with values) calls)
all_rise values calls wide all = (refl, wide, later_rise (starts_with values) calls all)
