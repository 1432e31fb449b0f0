-- The time to settle over the core, by how soon doors and gears are seen and for every limit at once: after the first step the time left
-- is at most the bound, each later step takes off it what has elapsed, and where it is not settled a step is still left. Demand 3 is the
-- case of the spans that the monitors ask for.
-- Assumes nothing.
use mathlib.Core.Bool.{Bool, false, not}
use mathlib.Core.List.{List, [], ◌∷◌}
use mathlib.Core.Path.{◌≡◌, refl, ◌∙◌, ap, subst⁻¹}
use Prim.Native.Nat.{ℕ, ◌+◌, ◌≤◌, ◌<◌}
use native.Mathlib.Nat.{zero-add}
use native.Mathlib.Omega.{arith}
use lib.Dec.{T, T_not}
use Rattle.sequence.specs.declared.Aim.{Aim}
use Rattle.sequence.specs.declared.Aim.TheVariants.{ToRetracted, ToExtended}
use Rattle.sequence.specs.declared.Place.{Place}
use Rattle.sequence.specs.declared.Seen.{Seen}
use Rattle.sequence.specs.Moves.{at_aim, move_of}
use Rattle.sequence.specs.Places.{moving_have_open}
use Rattle.orders.specs.Timing.{all_grown, off_together, orders_of}
use Rattle.controller.specs.declared.Core.{Core}
use Rattle.controller.specs.Votes.{seen_of}
use Rattle.common.proofs.Tests.{by_cases}
use Rattle.laws.specs.Bounds.{bound_for}
use Rattle.settling.specs.Settled.{is_home, settled, Unsettled, SettledWithin, UnsettledIsEarly}
use Rattle.settling.specs.CoreRuns.{
  Told,
  core_next,
  core_after,
  Within,
  elapsed_told,
  OfEveryCoreRun,
  Spans,
  monitored,
  AreSpans,
  bound_by,
  InTime,
  AllInTime,
  OfEveryCoreRunInTime,
}
use Rattle.settling.proofs.Phases.{Phase, at, onward, moves_onward, lands}
use Rattle.settling.proofs.Phases.Phase.{opening, opened, under_way, arrived, closing, closed}
use Rattle.settling.proofs.Five.{facing, is_over, stepped, orders_stepped, Standing, stands}
use Rattle.settling.proofs.Left.{left, left_most, left_least, left_falls}
use Rattle.settling.proofs.Quiet.{Quiet}
use Rattle.settling.proofs.Stays.{home_settles, is_quiet, unsettled_before, unsettled_in_time}

-- ---- In a phase

record In (aim : Aim) (phase : Phase) (c : Core) : Type 0 where
  is_at : c.place ≡ at aim phase
  standing : Standing phase (facing aim c.orders)

home : (aim : Aim) → T (is_home aim (at aim closed))
unfolding at_aim
home ToRetracted = tt
home ToExtended = tt

not_over : (aim : Aim) (phase : Phase) (c : Core) → In aim phase c → Unsettled aim c → T (not (is_over phase))
not_over aim opening c s u = tt
not_over aim opened c s u = tt
not_over aim under_way c s u = tt
not_over aim arrived c s u = tt
not_over aim closing c s u = tt
not_over aim closed c s u =
    absurd
    (T_not (settled aim c) u (home_settles aim c (subst⁻¹ (λ (p : Place). T (is_home aim p)) s.is_at (home aim))))

-- ---- One step that does not settle

module _ (aim : Aim) (c : Core) (t : Told) (u : Unsettled aim (core_next aim c t)) where
  quiet : Quiet aim c t
  quiet = is_quiet aim c t u

  -- It ends in the phase to which doors and gears move, with the orders of that phase.
  module _ (phase : Phase) (moves : move_of aim c.place (seen_of t.see) ≡ at aim phase) where
    five_after :
        facing aim (core_next aim c t).orders ≡
        stepped t.elapsed (off_together (all_grown t.elapsed c.orders)) phase (facing aim c.orders)
    five_after =
        ap (facing aim) quiet.ordered ∙
        ap (λ (p : Place). facing aim (orders_of p false (all_grown t.elapsed c.orders))) moves ∙
        orders_stepped t.elapsed aim phase c.orders

    in_after : In aim phase (core_next aim c t)
    in_after =
        record {
          is_at = quiet.moved ∙ moves;
          standing = subst⁻¹ (Standing phase) five_after (stands t.elapsed _ phase (facing aim c.orders));
        }

  -- The first step, from anywhere.
  first_step : T (moving_have_open c.place) → (phase : Phase) × In aim phase (core_next aim c t)
  first_step sound =
      let landed = lands aim c.place (seen_of t.see) sound in
      (landed.0, in_after landed.0 landed.1)

  -- A later one, from a phase.
  later_step :
      (spans : Spans) (limit : ℕ) (phase : Phase) →
      AreSpans spans →
      t.elapsed ≤ limit →
      InTime spans aim c t →
      In aim phase c →
      Unsettled aim c →
      (phase' : Phase) ×
      In aim phase' (core_next aim c t) ×
      (t.elapsed + left spans limit phase' (facing aim (core_next aim c t).orders) ≤ left spans limit phase (facing aim c.orders))
  later_step spans limit phase are within in_time s u₀ =
      let seen : Seen = seen_of t.see in
      let phase' : Phase = onward aim seen phase in
      let moves : move_of aim c.place seen ≡ at aim phase' = rw s.is_at (moves_onward aim phase seen) in
      let over = not_over aim phase c s u₀ in
      let stops : Bool = off_together (all_grown t.elapsed c.orders) in
      let falls = left_falls spans are limit t.elapsed within stops (facing aim c.orders) aim seen in
      let less = falls in_time.opens in_time.closes in_time.gears phase over s.standing in
      (phase', in_after phase' moves, rw (five_after phase' moves) less)

-- ---- A run

add : (a b limit l l' : ℕ) → b + limit ≤ l' → a + l' ≤ l → a + b + limit ≤ l
add a b limit l l' h h' = omega arith

module _ (spans : Spans) (are : AreSpans spans) (limit : ℕ) where
  early_from :
      (aim : Aim) (phase : Phase) (c : Core) (ts : List Told) →
      Within limit ts →
      AllInTime spans aim c ts →
      In aim phase c →
      Unsettled aim (core_after aim c ts) →
      elapsed_told ts + limit ≤ left spans limit phase (facing aim c.orders)
  unfolding core_after Within AllInTime elapsed_told
  early_from aim phase c [] w i s u = rw zero-add (left_least spans limit (facing aim c.orders) phase (not_over aim phase c s u))
  early_from aim phase c (t ∷ ts) w i s u =
      let next : Core = core_next aim c t in
      let u₀ = unsettled_before aim c (t ∷ ts) u in
      let later = later_step aim c t (unsettled_before aim next ts u) spans limit phase are w.0 i.0 s u₀ in
      add t.elapsed (elapsed_told ts) limit _ _ (early_from aim later.0 next ts w.1 i.1 later.1 u) later.2

-- What is not settled only early is settled in the end.
in_the_end :
    (limit ms elapsed : ℕ) (at_last : Bool) → 0 < limit → UnsettledIsEarly limit ms elapsed at_last → SettledWithin ms elapsed at_last
in_the_end limit ms elapsed at_last positive early late = by_cases at_last T (λ is_settled. tt) (λ u. absurd (omega (arith, early u)))

-- ---- By how soon doors and gears are seen, for every limit

-- Where it is not settled, what has elapsed since the first step and the limit are together at most the bound by the spans.
pub core_unsettled_is_early_by_spans :
    (spans : Spans) → AreSpans spans → (limit : ℕ) → OfEveryCoreRunInTime spans limit (UnsettledIsEarly limit (bound_by spans limit))
unfolding core_after
core_unsettled_is_early_by_spans spans are limit aim c sound first rest within in_time u =
    let next : Core = core_next aim c first in
    let landed = first_step aim c first (unsettled_before aim next rest u) sound in
    omega (
      arith,
      early_from spans are limit aim landed.0 next rest within in_time landed.1 u,
      left_most spans are limit (facing aim next.orders) landed.0,
    )

-- So within that bound it is settled.
pub core_settles_by_spans :
    (spans : Spans) → AreSpans spans → (limit : ℕ) → 0 < limit → OfEveryCoreRunInTime spans limit (SettledWithin (bound_by spans limit))
core_settles_by_spans spans are limit positive aim c sound first rest within in_time =
    in_the_end limit _ _ (settled aim (core_after aim c (first ∷ rest))) positive
    (core_unsettled_is_early_by_spans spans are limit aim c sound first rest within in_time)

-- ---- Demand 3 of the core, for every limit, those from 100 to 1,000 among them

monitored_are_spans : AreSpans monitored
monitored_are_spans =
    record { doors = record { low = omega arith; high = omega arith }; gears = record { low = omega arith; high = omega arith } }

-- Its bound is the one by what the monitors ask for.
pub the_bound_by_the_monitors : (limit : ℕ) → bound_by monitored limit ≡ bound_for limit
unfolding bound_by bound_for
the_bound_by_the_monitors limit = refl

-- The stronger form: where it is not settled, what has elapsed since the first step and the limit are together at most the bound.
pub core_unsettled_is_early : (limit : ℕ) → OfEveryCoreRun limit (UnsettledIsEarly limit (bound_for limit))
unfolding core_after
core_unsettled_is_early limit aim c sound first rest within u =
    rw the_bound_by_the_monitors at
    (core_unsettled_is_early_by_spans monitored monitored_are_spans limit aim c sound first rest within
    (unsettled_in_time aim (core_next aim c first) rest u)
    u)

pub core_demand_3 : (limit : ℕ) → 0 < limit → OfEveryCoreRun limit (SettledWithin (bound_for limit))
core_demand_3 limit positive aim c sound first rest within =
    in_the_end limit _ _ (settled aim (core_after aim c (first ∷ rest))) positive
    (core_unsettled_is_early limit aim c sound first rest within)
