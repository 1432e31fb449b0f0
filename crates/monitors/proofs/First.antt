-- The lowest number of a test that holds, by the place of the first test that holds.
-- Assumes nothing.
use Rattle.std.proofs.Common.{◌≡◌, ℕ, zero, suc, ◌+◌, ◌<◌, Bool, true, false, List, [], ◌∷◌, length, refl, arith}
use Rattle.std.specs.Option.{MatchOption}
use Rattle.std.specs.Prelude.{Option, Some, None}
use Rattle.std.specs.List.{AllWithin, HoldsAt}
use Rattle.common.specs.Lowest.{lowest_or}

-- A test holds, or it does not.
abbrev pub Yes : Bool → Type 0
Yes b = b ≡ true

abbrev pub No : Bool → Type 0
No b = b ≡ false

lowest_at : (n : ℕ) (tests : List Bool) (i : ℕ) → i < length tests → HoldsAt Yes tests i → AllWithin No tests 0 i → lowest_or n tests 0 ≡ n + i
lowest_at n [] i h passes fails = absurd (omega arith)
lowest_at n (t ∷ ts) zero h passes fails = rw (passes false) (omega arith)
lowest_at n (t ∷ ts) (suc i) h passes fails =
    rw (fails 0 false (omega arith) (omega arith), lowest_at (suc n) ts i (omega arith) passes (λ k d low high. fails (suc k) d (omega arith) (omega arith)))
    (omega arith)

lowest_none : (n : ℕ) (tests : List Bool) → AllWithin No tests 0 (length tests) → lowest_or n tests 0 ≡ 0
lowest_none n [] fails = refl
lowest_none n (t ∷ ts) fails =
    rw (fails 0 false (omega arith) (omega arith), lowest_none (suc n) ts (λ k d low high. fails (suc k) d (omega arith) (omega arith))) refl

pub lowest_from_first : (n : ℕ) (tests : List Bool) (r : Option ℕ)
    → MatchOption r (AllWithin No tests 0 (length tests)) (λ i. (i < length tests) × HoldsAt Yes tests i × AllWithin No tests 0 i)
    → MatchOption r (lowest_or n tests 0 ≡ 0) (λ i. lowest_or n tests 0 ≡ n + i)
lowest_from_first n tests None first = lowest_none n tests first
lowest_from_first n tests (Some i) first = lowest_at n tests i first.0 first.1 first.2
