-- Document 01, "Sequence" (001, Code 1 with its sensors): at most one move of doors and gears. Request K7: on ground.
-- Assumes nothing.
use Rattle.std.specs.Prelude.{Bool, true, false, cond}
use Rattle.sequence.specs.declared.Doors.{Doors}
use Rattle.sequence.specs.declared.Doors.TheVariants.{Closed, Opening, Open, Closing}
use Rattle.sequence.specs.declared.Gears.{Gears}
use Rattle.sequence.specs.declared.Gears.TheVariants.{Retracted, Extending, Extended, Retracting}
use Rattle.sequence.specs.declared.Aim.{Aim}
use Rattle.sequence.specs.declared.Aim.TheVariants.{ToRetracted, ToExtended}
use Rattle.sequence.specs.declared.Place.{Place}
use Rattle.sequence.specs.declared.Seen.{Seen}

abbrev pub place : Doors → Gears → Place
place doors gears = record { doors = doors; gears = gears }

-- Handle up aims at RETRACTED, down at EXTENDED.
abbrev pub aim_of : Bool → Aim
aim_of true = ToExtended
aim_of false = ToRetracted

-- The handle up.
abbrev pub is_up : Aim → Bool
is_up ToRetracted = true
is_up ToExtended = false

-- Gears at the aim.
unfoldable pub at_aim : Aim → Gears → Bool
at_aim ToRetracted Retracted = true
at_aim ToRetracted Extending = false
at_aim ToRetracted Extended = false
at_aim ToRetracted Retracting = false
at_aim ToExtended Retracted = false
at_aim ToExtended Extending = false
at_aim ToExtended Extended = true
at_aim ToExtended Retracting = false

-- At OPEN, gears at the other end or moving the wrong way start towards the aim, and gears moving the right way arrive if
-- all three are seen there.
unfoldable pub next_gears : Aim → Gears → Seen → Gears
next_gears ToRetracted Retracted seen = Retracted
next_gears ToRetracted Extending seen = Retracting
next_gears ToRetracted Extended seen = Retracting
next_gears ToRetracted Retracting seen = cond seen.retracted Retracted Retracting
next_gears ToExtended Retracted seen = Extending
next_gears ToExtended Extending seen = cond seen.extended Extended Extending
next_gears ToExtended Extended seen = Extended
next_gears ToExtended Retracting seen = Extending

-- Gears not at the aim: doors CLOSED or CLOSING become OPENING; OPENING becomes OPEN if all doors are seen open; at OPEN the
-- gears move.
abbrev out_from : Doors → Aim → Gears → Seen → Place
out_from Closed aim gears seen = place Opening gears
out_from Opening aim gears seen = place (cond seen.opened Open Opening) gears
out_from Open aim gears seen = place Open (next_gears aim gears seen)
out_from Closing aim gears seen = place Opening gears

-- Gears at the aim: doors OPEN or OPENING become CLOSING; CLOSING becomes CLOSED if all are seen closed.
abbrev home_from : Doors → Gears → Seen → Place
home_from Closed gears seen = place Closed gears
home_from Opening gears seen = place Closing gears
home_from Open gears seen = place Closing gears
home_from Closing gears seen = place (cond seen.closed Closed Closing) gears

unfoldable pub doors_to_gears : Aim → Place → Seen → Place
doors_to_gears aim p seen = out_from p.doors aim p.gears seen

unfoldable pub doors_home : Place → Seen → Place
doors_home p seen = home_from p.doors p.gears seen

-- At most one move, by whether the gears are at the aim.
unfoldable pub move_of : Aim → Place → Seen → Place
move_of aim p seen = cond (at_aim aim p.gears) (doors_home p seen) (doors_to_gears aim p seen)

-- ---- Request K7: on its wheels

-- "With the handle up, gears EXTENDED and any absorber voted on ground, the sequence now acts as if gears were at the aim." EXTENDED gears
-- are at the aim of the handle down: then this is the aim in force, and else the handle's own is.
unfoldable pub aim_in_force : Bool → Aim → Gears → Aim
aim_in_force false aim gears = aim
aim_in_force true ToRetracted Retracted = ToRetracted
aim_in_force true ToRetracted Extending = ToRetracted
aim_in_force true ToRetracted Extended = ToExtended
aim_in_force true ToRetracted Retracting = ToRetracted
aim_in_force true ToExtended gears = ToExtended

-- At most one move, on ground or in the air.
abbrev pub move_on : Bool → Aim → Place → Seen → Place
move_on grounded aim p seen = move_of (aim_in_force grounded aim p.gears) p seen
