-- The run of document 01 that settles at the bound, computed: the bound cannot drop. It also shows that there are runs with the handle
-- held for so long, and that one can settle without red.
-- Assumes nothing.
use mathlib.Core.Bool.{Bool, true, false, not}
use mathlib.Core.Path.{◌≡◌, refl, ap, subst, subst⁻¹}
use Prim.Native.Nat.{ℕ, ◌+◌, ◌-◌, ◌≤◌}
use lib.Dec.{T}
use Rattle.controller.specs.Steps.{limit}
use Rattle.laws.specs.Bounds.{bound_for, bound}
use Rattle.laws.specs.Reached.{Reached}
use Rattle.laws.specs.Reached.Reached.{fresh}
use Rattle.laws.proofs.Computing.{runs}
use Rattle.settling.specs.Runs.{is_taken, handle_says, absorbers_say, held_as, held, elapsed_in, elapsed_since}
use Rattle.settling.specs.Settled.{settled, settled_on, UnsettledIsEarly, OfEveryRun}
use Rattle.settling.specs.WorstRuns.{
  rows_from,
  start,
  first_row,
  stretches,
  closed_at_last,
  late,
  latest,
  unpressurized,
  Shown,
  in_flight,
  shown,
}

pub starts_fresh : Reached start
unfolding start
starts_fresh = fresh 1000

-- Not settled one step before the bound, and settled at it, with no red.
pub settles_at_the_bound :
    (shown late ≡ record { is_held = true; since = bound - limit; is_red = false; is_settled = false }) ×
    (shown latest ≡ record { is_held = true; since = bound; is_red = false; is_settled = true })
unfolding
    runs bound_for settled settled_on is_taken handle_says absorbers_say held_as held elapsed_in elapsed_since
    rows_from start first_row stretches closed_at_last late latest
settles_at_the_bound = (refl, refl)

-- So no lower number would do.
pub the_bound_cannot_drop : (ms : ℕ) → OfEveryRun (UnsettledIsEarly limit ms) → bound ≤ ms
unfolding bound_for
the_bound_cannot_drop ms early =
    let last = settles_at_the_bound.0 in
    subst (λ (since : ℕ). since + limit ≤ ms) (ap (λ (x : Shown). x.since) last)
    (early start starts_fresh false in_flight first_row late
    (subst⁻¹ T (ap (λ (x : Shown). x.is_held) last) tt)
    (subst⁻¹ (λ (is_settled : Bool). T (not is_settled)) (ap (λ (x : Shown). x.is_settled) last) tt))

-- Doors OPENING settle too, once red is lit.
pub red_settles_too : shown unpressurized ≡ record { is_held = true; since = 2000; is_red = true; is_settled = true }
unfolding runs settled settled_on is_taken handle_says absorbers_say held_as held elapsed_in elapsed_since rows_from start first_row unpressurized
red_settles_too = refl
