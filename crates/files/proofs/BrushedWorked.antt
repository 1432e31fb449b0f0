-- Two lessons meet what the theorems on a brushed lesson ask, computed: so what is written of them is the same bytes.
-- Assumes nothing.
use Prim.Native.Nat.{ℕ, zero, suc, ◌<◌}
use native.Mathlib.Omega.{arith}
use mathlib.Core.Bool.{Bool, true, false, ◌&&◌, beq}
use mathlib.Core.List.{List, [], ◌∷◌, map}
use mathlib.Core.Path.{◌≡◌, refl, ap}
use lib.Dec.{T, eqb, eqb→eq, lit≤}
use lib.ListN.{length, get_or}
use borrow.Author.Tests.{eqb-true, eqb-false}
use mir.Facts.{and_yes}
use Rattle.common.specs.Lists.{Each}
use Rattle.common.specs.Tests.{every}
use Rattle.common.proofs.Each.{each_at_index}
use Rattle.voter.specs.declared.Voter.{Voter}
use Rattle.voter.specs.declared.Channels.TheVariants.{All}
use Rattle.voter.specs.Voting.{fresh_with}
use Rattle.voter.specs.Numbers.{number_of}
use Rattle.voter.specs.Runs.{odd_in, majority}
use Rattle.voter.proofs.Numbering.{all_by_number}
use Rattle.controller.specs.Start.{fresh_of, started_at}
use Rattle.controller.specs.Steps.{some_over_one}
use Rattle.controller.specs.Samples.{Row, after}
use Rattle.controller.proofs.Computing.{rules}
use Rattle.image.specs.Items.{sensor_count}
use Rattle.laws.specs.Evenly.{evenly}
use Rattle.laws.specs.Lesson.{switch_says}
use Rattle.laws.specs.Bounces.{reading_at, CountsAre0}
use Rattle.laws.proofs.Bounces.{fresh_is_quiet}
use Rattle.common.proofs.Tests.{same}
use Rattle.lesson.specs.Replay.{replay_of}
use Rattle.dumping.specs.Moments.{waves_of}
use Rattle.handing.specs.Handing.{saved_of}
use Rattle.files.specs.Traces.{InOneTrace, trace_bearing}
use Rattle.files.specs.Brushed.{Clean, SameButForBounces, Brushed, AllForgiven, row_zero, clean_rows, brushed_rows}
use Rattle.files.proofs.Traces.{a_trace_bears_its_samples}
use Rattle.files.proofs.Bearable.{all_bits, all_bearable, bearable_tested}
use Rattle.files.proofs.Brushed.{EachValid, forgiven_exactly}
use Rattle.files.proofs.BrushedDumps.{brushed_lesson}

-- ---- By tests

all_below : ℕ → (ℕ → Bool) → Bool
all_below zero test = true
all_below (suc n) test = test n && all_below n test

below : (n : ℕ) (test : ℕ → Bool) → T (all_below n test) → (i : ℕ) → i < n → T (test i)
unfolding all_below
below zero test all i h = absurd (omega arith)
below (suc n) test all i h = by (eqb i n) refl (below n test (and_yes (test n) _ all).1 i)
  where
    by : (last : Bool) → eqb i n ≡ last → (i < n → T (test i)) → T (test i)
    by true e before = rw (eqb-true i n e) (and_yes (test n) _ all).0
    by false e before = before (omega (arith, eqb-false i n e))

-- Two samples at each of whose sensors the majorities are tested to be the same.
abbrev same_at : List ℕ → List ℕ → ℕ → Bool
same_at sample other i = beq (majority (reading_at i sample)) (majority (reading_at i other))

tested : (sample other : List ℕ) → length sample ≡ length other → some_over_one sample ≡ some_over_one other → T (all_below sensor_count (same_at sample other)) → SameButForBounces sample other
tested sample other long over all =
    record { long = long; over = over; majorities = λ i h. same _ _ (below sensor_count (same_at sample other) all i h) }

-- Sensors of which all are tested to have their channels valid.
all_tested : (vs : List Voter) → T (every (map (λ (v : Voter). eqb (number_of v) 0) vs)) → EachValid vs
all_tested [] all = tt
all_tested (v ∷ vs) all =
    let parts = and_yes (eqb (number_of v) 0) _ all in (all_by_number v (eqb→eq (number_of v) 0 parts.0), all_tested vs parts.1)

-- And to have a count of 0.
none_tested : (vs : List Voter) → T (every (map (λ (v : Voter). eqb v.count 0) vs)) → Each (λ (v : Voter). v.count ≡ 0) vs
none_tested [] all = tt
none_tested (v ∷ vs) all =
    let parts = and_yes (eqb v.count 0) _ all in (eqb→eq v.count 0 parts.0, none_tested vs parts.1)

-- ---- The lesson

-- It is not the clean one, ..
pub it_differs : clean_rows ≡ brushed_rows → ⊥
unfolding clean_rows brushed_rows evenly rules
it_differs e = omega (arith, ap (λ (rows : List Row). get_or (get_or rows 0 (0, [])).1 5 0) e)

-- .. but for bounces it is, ..
pub it_is_brushed : Brushed clean_rows brushed_rows
unfolding Brushed clean_rows brushed_rows evenly rules all_below
it_is_brushed = (
  refl,
  tested _ _ refl refl tt,
  (
    refl,
    tested _ _ refl refl tt,
    (
      refl,
      tested _ _ refl refl tt,
      (
        refl,
        tested _ _ refl refl tt,
        (
          refl,
          tested _ _ refl refl tt,
          (refl, tested _ _ refl refl tt, tt),
        ),
      ),
    ),
  ),
)

-- .. every one of which is forgiven, and the other lesson is clean.
pub brushed_is_forgiven : AllForgiven (started_at 0 (fresh_of 0)) brushed_rows
unfolding rules started_at after brushed_rows evenly number_of
brushed_is_forgiven =
    let left = (after (started_at 0 (fresh_of 0)) brushed_rows).voters in
    (forgiven_exactly (started_at 0 (fresh_of 0)) (fresh_is_quiet 0) brushed_rows).1
    (each_at_index (λ (v : Voter). v.channels ≡ All) (fresh_with false) left (all_tested left tt))

-- At its end every count is 0.
pub brushed_ends_at_0 : CountsAre0 (after (started_at 0 (fresh_of 0)) brushed_rows)
unfolding rules started_at after brushed_rows evenly
brushed_ends_at_0 =
    let left = (after (started_at 0 (fresh_of 0)) brushed_rows).voters in
    each_at_index (λ (v : Voter). v.count ≡ 0) (fresh_with false) left (none_tested left tt)

clean_tested : (sample : List ℕ) → T (all_below sensor_count (λ (i : ℕ). eqb (odd_in (reading_at i sample)) 0)) → (i : ℕ) → i < sensor_count → odd_in (reading_at i sample) ≡ 0
clean_tested sample all i h = eqb→eq _ 0 (below sensor_count (λ (i : ℕ). eqb (odd_in (reading_at i sample)) 0) all i h)

pub it_is_clean : Clean clean_rows
unfolding clean_rows evenly rules all_below
it_is_clean = let clean = clean_tested (switch_says 0 0 0) tt in (clean, (clean, (clean, (clean, (clean, (clean, tt))))))

clean_can : InOneTrace (row_zero ∷ clean_rows)
unfolding rules clean_rows evenly row_zero all_bits all_bearable
clean_can = record { each = bearable_tested (row_zero ∷ clean_rows) tt; labels = lit≤ tt }

brushed_can : InOneTrace (row_zero ∷ brushed_rows)
unfolding rules brushed_rows evenly row_zero all_bits all_bearable
brushed_can = record { each = bearable_tested (row_zero ∷ brushed_rows) tt; labels = lit≤ tt }

-- So of the traces that bear the two, rows, dump and image are the same bytes.
pub brushed_somewhere :
    (let clean = trace_bearing (row_zero ∷ clean_rows) in
    let brushed = trace_bearing (row_zero ∷ brushed_rows) in
    (replay_of clean ≡ replay_of brushed) × (waves_of clean ≡ waves_of brushed) × (saved_of (fresh_of 0) clean ≡ saved_of (fresh_of 0) brushed))
unfolding row_zero
brushed_somewhere =
    let all =
    brushed_lesson row_zero row_zero clean_rows brushed_rows refl it_is_clean it_is_brushed brushed_is_forgiven
    (trace_bearing (row_zero ∷ clean_rows)) (trace_bearing (row_zero ∷ brushed_rows)) []
    (a_trace_bears_its_samples (row_zero ∷ clean_rows) clean_can) (a_trace_bears_its_samples (row_zero ∷ brushed_rows) brushed_can)
    in
    (all.0, all.1, all.2 brushed_ends_at_0)
