-- Request K7: the aim in force stays while the handle and, with the handle up, the ground stay. With the handle up on ground EXTENDED gears
-- stay EXTENDED and no others become so. And what is settled at the aim in force counts as settled.
-- Assumes nothing.
use mathlib.Core.Bool.{Bool, true, false, cond, not, ◌&&◌, ◌||◌, beq}
use mathlib.Core.Logic.{⊎_elim}
use mathlib.Core.Path.{◌≡◌, refl, sym, ap, ◌∙◌}
use Prim.Native.Nat.{◌+◌}
use lib.Dec.{T}
use mir.Facts.{and_yes, or_yes}
use Rattle.common.proofs.Tests.{same, one_way, other_way}
use Rattle.sequence.specs.declared.Doors.{Doors}
use Rattle.sequence.specs.declared.Doors.TheVariants.{Closed, Opening, Open, Closing}
use Rattle.sequence.specs.declared.Gears.{Gears}
use Rattle.sequence.specs.declared.Gears.TheVariants.{Retracted, Extending, Extended, Retracting}
use Rattle.sequence.specs.declared.Aim.{Aim}
use Rattle.sequence.specs.declared.Aim.TheVariants.{ToRetracted, ToExtended}
use Rattle.sequence.specs.declared.Place.{Place}
use Rattle.sequence.specs.declared.Seen.{Seen}
use Rattle.sequence.specs.Moves.{place, aim_of, at_aim, next_gears, doors_to_gears, doors_home, move_of, aim_in_force, move_on}
use Rattle.controller.specs.declared.Core.{Core}
use Rattle.controller.specs.declared.State.{State}
use Rattle.controller.specs.Votes.{gear_shock_absorber, sensor, three_from, seen_of, on_ground}
use Rattle.controller.specs.Stages.{anomaly, core_ages, core_handle, core_monitors}
use Rattle.laws.specs.Laws.{ground_of}
use Rattle.laws.proofs.Stages.{core_stages}
use Rattle.settling.specs.Runs.{Absorbers, absorbers_say}
use Rattle.settling.specs.Settled.{is_home, settled, Settled, settled_on}
use Rattle.settling.specs.CoreRuns.{Told, core_next}

-- ---- The ground

-- Any of three absorbers is on ground.
abbrev pub any_of : Absorbers → Bool
any_of these = these.0 || these.1 || these.2

-- With the handle up the ground is what these absorbers say.
pub ground_held : (down : Bool) (these : Absorbers) (s : State) → T (down || absorbers_say these s) → T (not down) → ground_of s ≡ any_of these
unfolding absorbers_say on_ground three_from
ground_held true these s h up = absurd up
ground_held false these s h up =
    let front : Bool = sensor gear_shock_absorber s.voters in
    let left : Bool = sensor (gear_shock_absorber + 1) s.voters in
    let right : Bool = sensor (gear_shock_absorber + 2) s.voters in
    let two = and_yes (beq front these.0 && beq left these.1) (beq right these.2) h in
    let one = and_yes (beq front these.0) (beq left these.1) two.0 in
    rw (same front these.0 one.0, same left these.1 one.1, same right these.2 two.1) refl

-- ---- The aim in force

-- With the handle down it is the handle's.
handle_down : (grounded : Bool) (gears : Gears) → aim_in_force grounded ToExtended gears ≡ ToExtended
unfolding aim_in_force
handle_down true gears = refl
handle_down false gears = refl

-- In the air too.
in_the_air : (aim : Aim) (gears : Gears) → aim_in_force false aim gears ≡ aim
unfolding aim_in_force
in_the_air aim gears = refl

-- So only with the handle up the ground matters.
pub by_ground :
    (down grounded other : Bool) (gears : Gears) →
    (T (not down) → grounded ≡ other) →
    aim_in_force grounded (aim_of down) gears ≡ aim_in_force other (aim_of down) gears
by_ground true grounded other gears e = handle_down grounded gears ∙ sym (handle_down other gears)
by_ground false grounded other gears e = ap (λ (g : Bool). aim_in_force g ToRetracted gears) (e tt)

-- A move keeps it.
up_on_ground :
    (doors : Doors) (gears : Gears) (seen : Seen) →
    aim_in_force true ToRetracted (move_on true ToRetracted (place doors gears) seen).gears ≡ aim_in_force true ToRetracted gears
unfolding aim_in_force move_of at_aim doors_home doors_to_gears next_gears
up_on_ground Closed Retracted seen = refl
up_on_ground Closed Extending seen = refl
up_on_ground Closed Extended seen = refl
up_on_ground Closed Retracting seen = refl
up_on_ground Opening Retracted seen = refl
up_on_ground Opening Extending seen = refl
up_on_ground Opening Extended seen = refl
up_on_ground Opening Retracting seen = refl
up_on_ground Open Retracted seen = refl
up_on_ground Open Extending seen = refl
up_on_ground Open Extended seen = refl
up_on_ground Open Retracting seen = arrived seen.retracted
  where
    arrived : (there : Bool) → aim_in_force true ToRetracted (cond there Retracted Retracting) ≡ ToRetracted
    arrived true = refl
    arrived false = refl
up_on_ground Closing Retracted seen = refl
up_on_ground Closing Extending seen = refl
up_on_ground Closing Extended seen = refl
up_on_ground Closing Retracting seen = refl

move_keeps :
    (red grounded : Bool) (aim : Aim) (p : Place) (seen : Seen) →
    aim_in_force grounded aim (cond red p (move_on grounded aim p seen)).gears ≡ aim_in_force grounded aim p.gears
move_keeps true grounded aim p seen = refl
move_keeps false true ToRetracted p seen = up_on_ground p.doors p.gears seen
move_keeps false true ToExtended p seen = handle_down true _ ∙ sym (handle_down true p.gears)
move_keeps false false aim p seen = in_the_air aim _ ∙ sym (in_the_air aim p.gears)

-- So does a step of the core, red or not.
pub force_stays :
    (grounded : Bool) (aim : Aim) (c : Core) (t : Told) →
    aim_in_force grounded aim (core_next (aim_in_force grounded aim c.place.gears) c t).place.gears ≡ aim_in_force grounded aim c.place.gears
unfolding core_next core_stages
force_stays grounded aim c t =
    let watched : Core = core_monitors t.see (core_handle t.turned (core_ages t.elapsed c)) in
    move_keeps (anomaly watched) grounded aim c.place (seen_of t.see)

-- ---- Settled at the aim in force

-- Red, or doors CLOSED with gears EXTENDED.
on_its_wheels : (c : Core) → Settled ToExtended c → T (settled ToRetracted c || is_home ToExtended c.place)
unfolding settled
on_its_wheels c h =
    let home : Bool = is_home ToExtended c.place in
    ⊎_elim
    (λ red. one_way (settled ToRetracted c) home (one_way (anomaly c) (is_home ToRetracted c.place) red))
    (other_way (settled ToRetracted c) home)
    (or_yes (anomaly c) home h)

pub counts_as_settled : (grounded : Bool) (aim : Aim) (gears : Gears) (c : Core) → Settled (aim_in_force grounded aim gears) c → T (settled_on grounded aim c)
unfolding aim_in_force settled_on
counts_as_settled false aim gears c h = one_way (settled aim c) _ h
counts_as_settled true ToExtended gears c h = one_way (settled ToExtended c) _ h
counts_as_settled true ToRetracted Retracted c h = one_way (settled ToRetracted c) _ h
counts_as_settled true ToRetracted Extending c h = one_way (settled ToRetracted c) _ h
counts_as_settled true ToRetracted Retracting c h = one_way (settled ToRetracted c) _ h
counts_as_settled true ToRetracted Extended c h = on_its_wheels c h
