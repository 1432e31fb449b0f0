-- Demand 3 over the controller's own step and real samples, from a fresh start or a taken image (request K3). An accepted sample is a
-- step of the core on what the votes say, and a voted handle that stays, with absorbers that stay where it is up, is an aim in force that
-- stays (request K7): of the votes nothing else is used.
-- Assumes nothing.
use mathlib.Core.Bool.{Bool, not, ◌&&◌, ◌||◌}
use mathlib.Core.List.{List, [], ◌∷◌}
use mathlib.Core.Path.{◌≡◌, refl, sym, ◌∙◌, ap, subst}
use Prim.Native.Nat.{ℕ, ◌+◌, ◌≤◌}
use native.Mathlib.Omega.{arith}
use lib.Dec.{T, T_not, not_T, eqb, ltb, eqb→eq, nltb→le, lit<}
use lib.ListN.{length}
use mir.Facts.{and_yes}
use Rattle.common.proofs.Tests.{same}
use Rattle.voter.specs.declared.Voter.{Voter}
use Rattle.sequence.specs.declared.Aim.{Aim}
use Rattle.sequence.specs.Moves.{aim_of, aim_in_force}
use Rattle.controller.specs.declared.Core.{Core}
use Rattle.controller.specs.declared.State.{State}
use Rattle.controller.specs.Votes.{handle, sensor, all_voted, sight_of, aimed, on_ground}
use Rattle.controller.specs.Stages.{elapsed_of, turned, in_force, accepted}
use Rattle.controller.specs.Steps.{limit, some_over_one, refusal_at, step_at, step_of}
use Rattle.controller.specs.Shows.{gears_of}
use Rattle.controller.specs.Samples.{Row, after}
use Rattle.laws.specs.Bounds.{bound_for, bound}
use Rattle.laws.specs.Laws.{ground_of}
use Rattle.laws.proofs.Stages.{stages}
use Rattle.laws.proofs.Lifted.{core_of_accepted, taken_is_accepted}
use Rattle.laws.proofs.Safety.{moving_gears_have_doors_open}
use Rattle.settling.specs.Runs.{next, is_taken, handle_says, Absorbers, absorbers_say, held_as, held, Held, elapsed_in, elapsed_since}
use Rattle.settling.specs.Settled.{settled, SettledWithin, UnsettledIsEarly, is_settled, OfEveryRun}
use Rattle.settling.specs.CoreRuns.{
  Told,
  core_next,
  core_after,
  Within,
  elapsed_told,
  OfEveryCoreRun,
}
use Rattle.settling.proofs.Quiet.{none_holds}
use Rattle.settling.proofs.InForce.{any_of, ground_held, by_ground, force_stays, counts_as_settled}
use Rattle.settling.proofs.CoreSettles.{core_unsettled_is_early, core_demand_3}

-- ---- What samples tell the core

abbrev told_by : State → Row → Told
told_by s r =
    let votes : List Voter = all_voted r.1 s.voters in
    record { elapsed = elapsed_of s.stamp r.0; turned = turned s.voters votes; see = sight_of votes }

abbrev all_told_by : State → List Row → List Told
all_told_by s [] = []
all_told_by s (r ∷ rs) = told_by s r ∷ all_told_by (next s r) rs

-- ---- One sample

module _ (down : Bool) (these : Absorbers) (s : State) (r : Row) (rs : List Row) (h : Held down these s (r ∷ rs)) where
  pub goes_on : Held down these (next s r) rs
  unfolding held
  goes_on = (and_yes (is_taken s r && held_as down these (next s r)) (held down these (next s r) rs) h).1

  pub taken_and_held : T (is_taken s r) × T (held_as down these (next s r))
  unfolding held
  taken_and_held =
      and_yes (is_taken s r) (held_as down these (next s r))
      (and_yes (is_taken s r && held_as down these (next s r)) (held down these (next s r) rs) h).0

  says : T (handle_says down (next s r)) × T (down || absorbers_say these (next s r))
  unfolding held_as
  says = and_yes (handle_says down (next s r)) (down || absorbers_say these (next s r)) taken_and_held.1

  not_refused : (step_of s r.0 r.1).refusal ≡ 0
  unfolding is_taken
  not_refused = eqb→eq (step_of s r.0 r.1).refusal 0 taken_and_held.0

  is_accepted : next s r ≡ accepted s r.0 r.1
  is_accepted = taken_is_accepted s r.0 r.1 not_refused

  within_limit : elapsed_of s.stamp r.0 ≤ limit
  unfolding step_at refusal_at
  within_limit =
      let elapsed : ℕ = elapsed_of s.stamp r.0 in
      nltb→le limit elapsed
      (none_holds 0 (not (eqb (length r.1) 54) ∷ some_over_one r.1 ∷ eqb elapsed 0 ∷ ltb limit elapsed ∷ []) not_refused).1.1.1.0

  voters_next : (next s r).voters ≡ all_voted r.1 s.voters
  unfolding stages
  voters_next = ap (λ (t : State). t.voters) is_accepted

  handle_held : sensor handle (all_voted r.1 s.voters) ≡ down
  unfolding handle_says
  handle_held = rw voters_next at (same (sensor handle (next s r).voters) down says.0)

  ground_next : T (not down) → on_ground (all_voted r.1 s.voters) ≡ any_of these
  ground_next up = rw voters_next at (ground_held down these (next s r) says.1 up)

  -- The aim in force at this sample.
  abbrev aim_here : Aim
  aim_here = aim_in_force (any_of these) (aim_of down) (gears_of s)

  in_force_here : in_force (all_voted r.1 s.voters) s.core ≡ aim_here
  unfolding aimed
  in_force_here =
      let grounded : Bool = on_ground (all_voted r.1 s.voters) in
      ap (λ (b : Bool). aim_in_force grounded (aim_of b) (gears_of s)) handle_held ∙ by_ground down grounded (any_of these) (gears_of s) ground_next

  core_next_lem : (next s r).core ≡ core_next aim_here s.core (told_by s r)
  unfolding core_next
  core_next_lem =
      ap (λ (t : State). t.core) is_accepted ∙
      core_of_accepted s r.0 r.1 ∙
      ap (λ (aim : Aim). core_next aim s.core (told_by s r)) in_force_here

  -- It stays.
  aim_stays : aim_in_force (any_of these) (aim_of down) (gears_of (next s r)) ≡ aim_here
  aim_stays =
      ap (λ (c : Core). aim_in_force (any_of these) (aim_of down) c.place.gears) core_next_lem ∙
      force_stays (any_of these) (aim_of down) s.core (told_by s r)

-- ---- A run

core_after_lem :
    (down : Bool) (these : Absorbers) (s : State) (rs : List Row) →
    Held down these s rs →
    (after s rs).core ≡ core_after (aim_in_force (any_of these) (aim_of down) (gears_of s)) s.core (all_told_by s rs)
unfolding after core_after
core_after_lem down these s [] h = refl
core_after_lem down these s (r ∷ rs) h =
    core_after_lem down these (next s r) rs (goes_on down these s r rs h) ∙
    ap (λ (aim : Aim). core_after aim (next s r).core (all_told_by (next s r) rs)) (aim_stays down these s r rs h) ∙
    ap (λ (c : Core). core_after (aim_here down these s r rs h) c (all_told_by (next s r) rs)) (core_next_lem down these s r rs h)

all_within : (down : Bool) (these : Absorbers) (s : State) (rs : List Row) → Held down these s rs → Within limit (all_told_by s rs)
unfolding Within
all_within down these s [] h = tt
all_within down these s (r ∷ rs) h =
    (within_limit down these s r rs h, all_within down these (next s r) rs (goes_on down these s r rs h))

elapsed_told_lem : (s : State) (rs : List Row) → elapsed_in s rs ≡ elapsed_told (all_told_by s rs)
unfolding elapsed_in elapsed_told
elapsed_told_lem s [] = refl
elapsed_told_lem s (r ∷ rs) = ap (λ (n : ℕ). elapsed_of s.stamp r.0 + n) (elapsed_told_lem (next s r) rs)

-- The first sample counts as 0 ms.
since_told : (s : State) (first : Row) (rest : List Row) → elapsed_since s (first ∷ rest) ≡ elapsed_told (all_told_by (next s first) rest)
unfolding elapsed_in elapsed_since
since_told s first rest = omega (arith, elapsed_told_lem (next s first) rest)

-- With the handle up the ground at the end of a run is what its absorbers say.
ground_at_last :
    (down : Bool) (these : Absorbers) (s : State) (first : Row) (rest : List Row) →
    Held down these s (first ∷ rest) →
    T (not down) →
    any_of these ≡ ground_of (after s (first ∷ rest))
unfolding after
ground_at_last down these s first [] h up = sym (ground_held down these (next s first) (says down these s first [] h).1 up)
ground_at_last down these s first (r ∷ rs) h up = ground_at_last down these (next s first) r rs (goes_on down these s first (r ∷ rs) h) up

-- What holds of every run of the core at the aim in force holds of every run of samples, where it holds too of what else counts as settled.
by_the_core :
    (Says : ℕ → Bool → Type 0) →
    ((elapsed : ℕ) (one other : Bool) → (T one → T other) → Says elapsed one → Says elapsed other) →
    OfEveryCoreRun limit Says →
    OfEveryRun Says
by_the_core Says wider of_the_core s reached down these first rest stays =
    let last : State = after s (first ∷ rest) in
    let elapsed : ℕ = elapsed_since s (first ∷ rest) in
    wider elapsed (settled (aim_in_force (ground_of last) (aim_of down) (gears_of s)) last.core) (is_settled down last)
    (counts_as_settled (ground_of last) (aim_of down) (gears_of s) last.core)
    (subst (λ (aim : Aim). Says elapsed (settled aim last.core))
    (by_ground down (any_of these) (ground_of last) (gears_of s) (ground_at_last down these s first rest stays))
    (rw (core_after_lem down these s (first ∷ rest) stays, since_told s first rest)
    (of_the_core _ s.core (moving_gears_have_doors_open s reached) (told_by s first) (all_told_by (next s first) rest)
    (all_within down these (next s first) rest (goes_on down these s first rest stays)))))

-- ---- Demand 3

-- As it is quoted in specs/Settled.antt; reached is from a fresh start or a taken image.
pub demand_3 : OfEveryRun (SettledWithin bound)
demand_3 = by_the_core (SettledWithin bound) (λ elapsed one other so within late. so (within late)) (core_demand_3 limit (lit< tt))

-- What is stronger: a sample at which it is not settled comes with elapsed and limit together at most that.
pub unsettled_is_early : OfEveryRun (UnsettledIsEarly limit bound)
unsettled_is_early =
    by_the_core (UnsettledIsEarly limit bound)
    (λ elapsed one other so early unsettled. early (not_T one (λ h. T_not other unsettled (so h))))
    (core_unsettled_is_early limit)

-- The number that document 01 names.
pub the_bound_in_force : bound ≡ 24796
unfolding bound_for
the_bound_in_force = refl
