-- Each of the thirteen causes is reached: a run each, computed.
-- Assumes nothing.
use mathlib.Core.Bool.{Bool}
use mathlib.Core.List.{List, [], ◌∷◌}
use mathlib.Core.Path.{◌≡◌, refl, ◌∙◌, ap}
use Prim.Native.Nat.{ℕ, suc, ◌+◌, ◌≤◌, ◌<◌}
use native.Mathlib.Omega.{arith}
use lib.Dec.{leb, leb→le, nleb→lt}
use lib.ListN.{length, get_or}
use borrow.Author.Tests.{eq-eqb}
use Rattle.controller.specs.declared.State.{State}
use Rattle.controller.specs.Start.{fresh_of}
use Rattle.controller.specs.Samples.{Row, after}
use Rattle.image.specs.Items.{last_cause}
use Rattle.laws.specs.Reached.Reached.{fresh}
use Rattle.laws.specs.Times.{next}
use Rattle.laws.specs.Laws.{Sometimes, has_cause}
use Rattle.witnesses.specs.CauseRuns.{cause_runs, last_causes, FoundInTurn}
use Rattle.common.proofs.Tests.{by_cases}
use Rattle.laws.proofs.Computing.{runs}
use Rattle.laws.proofs.Sometimes.{after_is_reached}

-- There is no cause before the last sample of each run, and the one of its number after it.
pub each_cause_is_found : FoundInTurn 1 cause_runs
unfolding runs cause_runs last_causes
each_cause_is_found =
    (refl, (refl, (refl, (refl, (refl, (refl, (refl, (refl, (refl, (refl, (refl, (refl, (refl, tt)))))))))))))

-- The last of them is the cause of the state that the run comes to.
last_is_after : (s : State) (rows : List Row) (m n : ℕ) → last_causes s rows ≡ m ∷ n ∷ [] → (after s rows).core.cause ≡ n
unfolding last_causes after
last_is_after s [] m n e = absurd (omega (arith, ap length e))
last_is_after s (r ∷ []) m n e = ap (λ (causes : List ℕ). get_or causes 1 0) e
last_is_after s (r ∷ q ∷ rs) m n e = last_is_after (next s r) (q ∷ rs) m n e

in_turn :
    (first : ℕ) (runs : List (List Row)) →
    FoundInTurn first runs →
    (n : ℕ) →
    first ≤ n →
    n < first + length runs →
    Sometimes (has_cause n)
in_turn first [] found n from below = absurd (omega arith)
in_turn first (run ∷ more) found n from below =
    by_cases (leb n first) (λ (is_first : Bool). Sometimes (has_cause n))
    (λ is_first.
    let cause = last_is_after (fresh_of 0) run 0 first found.0 in
    let same : first ≡ n = omega (arith, leb→le n first is_first) in (
      after (fresh_of 0) run,
      after_is_reached (fresh_of 0) (fresh 0) run,
      rw (eq-eqb (after (fresh_of 0) run).core.cause n (cause ∙ same)) tt,
    ))
    (λ is_later. in_turn (suc first) more found.1 n (nleb→lt n first is_later) (omega arith))

-- So each is reached from a fresh start.
pub each_cause_is_reached : (n : ℕ) → 1 ≤ n → n ≤ last_cause → Sometimes (has_cause n)
unfolding cause_runs
each_cause_is_reached n from to = in_turn 1 cause_runs each_cause_is_found n from (omega arith)
