-- What is settled stays so while the aim stays: red is kept, and doors CLOSED with gears at the aim have no move. So what is not
-- settled at the end was not settled before, and each step on the way was quiet, and in time by the monitors.
-- Assumes nothing.
use mathlib.Core.Bool.{Bool, true, false, cond, not}
use mathlib.Core.List.{List, [], ◌∷◌}
use mathlib.Core.Logic.{⊎_elim}
use mathlib.Core.Path.{◌≡◌, refl, subst⁻¹}
use Prim.Native.Nat.{ℕ}
use lib.Dec.{T, eqb, T_not, not_T}
use lib.Ieee.Bits.{is_true}
use mir.Facts.{or_yes}
use Rattle.common.proofs.Tests.{one_way, other_way}
use Rattle.sequence.specs.declared.Doors.{Doors}
use Rattle.sequence.specs.declared.Doors.TheVariants.{Closed, Opening, Open, Closing}
use Rattle.sequence.specs.declared.Gears.{Gears}
use Rattle.sequence.specs.declared.Aim.{Aim}
use Rattle.sequence.specs.declared.Place.{Place}
use Rattle.sequence.specs.declared.Seen.{Seen}
use Rattle.sequence.specs.Moves.{place, at_aim, doors_home, move_of}
use Rattle.controller.specs.declared.Core.{Core}
use Rattle.controller.specs.Votes.{seen_of}
use Rattle.controller.specs.Stages.{anomaly}
use Rattle.laws.proofs.Stages.{core_stages}
use Rattle.settling.specs.Settled.{is_home, settled, Settled, Unsettled}
use Rattle.settling.specs.CoreRuns.{Told, core_next, core_after, monitored, AllInTime}
use Rattle.settling.proofs.Quiet.{Quiet, red_or_quiet}

-- ---- Two ways to be settled

module _ (aim : Aim) (c : Core) where
  red_settles : T (anomaly c) → Settled aim c
  unfolding settled
  red_settles = one_way (anomaly c) (is_home aim c.place)

  pub home_settles : T (is_home aim c.place) → Settled aim c
  unfolding settled
  home_settles = other_way (anomaly c) (is_home aim c.place)

-- ---- Red is kept, and home has no move

latched : (kept found : ℕ) → T (not (eqb kept 0)) → T (not (eqb (cond (not (eqb kept 0)) kept found) 0))
latched kept found h = rw (is_true (not (eqb kept 0)) h) h

red_kept : (aim : Aim) (c : Core) (t : Told) → T (anomaly c) → T (anomaly (core_next aim c t))
unfolding core_next core_stages anomaly
red_kept aim c t h = latched c.cause _ h

no_move :
    (aim : Aim) (doors : Doors) (gears : Gears) (seen : Seen) →
    T (is_home aim (place doors gears)) →
    T (is_home aim (move_of aim (place doors gears) seen))
unfolding move_of doors_home
no_move aim Closed gears seen h = rw (is_true (at_aim aim gears) h) h
no_move aim Opening gears seen h = absurd h
no_move aim Open gears seen h = absurd h
no_move aim Closing gears seen h = absurd h

-- ---- Over a step, and over a run

module _ (aim : Aim) (c : Core) (t : Told) where
  abbrev after : Core
  after = core_next aim c t

  home_stays : T (is_home aim c.place) → Settled aim after
  home_stays h =
      ⊎_elim (red_settles aim after)
      (λ quiet.
      home_settles aim after
      (subst⁻¹ (λ (p : Place). T (is_home aim p)) quiet.moved (no_move aim c.place.doors c.place.gears (seen_of t.see) h)))
      (red_or_quiet aim c t)

  stays : Settled aim c → Settled aim after
  unfolding settled
  stays h = ⊎_elim (λ red. red_settles aim after (red_kept aim c t red)) home_stays (or_yes (anomaly c) (is_home aim c.place) h)

  pub is_quiet : Unsettled aim after → Quiet aim c t
  is_quiet u =
      ⊎_elim (λ red. absurd (T_not (settled aim after) u (red_settles aim after red))) (λ quiet. quiet)
      (red_or_quiet aim c t)

all_stays : (aim : Aim) (c : Core) (ts : List Told) → Settled aim c → Settled aim (core_after aim c ts)
unfolding core_after
all_stays aim c [] h = h
all_stays aim c (t ∷ ts) h = all_stays aim (core_next aim c t) ts (stays aim c t h)

pub unsettled_before : (aim : Aim) (c : Core) (ts : List Told) → Unsettled aim (core_after aim c ts) → Unsettled aim c
unsettled_before aim c ts u = not_T (settled aim c) (λ h. T_not (settled aim (core_after aim c ts)) u (all_stays aim c ts h))

pub unsettled_in_time : (aim : Aim) (c : Core) (ts : List Told) → Unsettled aim (core_after aim c ts) → AllInTime monitored aim c ts
unfolding core_after AllInTime
unsettled_in_time aim c [] u = tt
unsettled_in_time aim c (t ∷ ts) u =
    let next : Core = core_next aim c t in
    ((is_quiet aim c t (unsettled_before aim next ts u)).in_time, unsettled_in_time aim next ts u)
