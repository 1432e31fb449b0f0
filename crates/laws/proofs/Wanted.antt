-- What an order that is wanted says: where doors or gears stand, and that there is no anomaly.
-- Assumes nothing.
use mathlib.Core.Bool.{Bool, true, false, not, ◌&&◌}
use mathlib.Core.Path.{◌≡◌, refl}
use lib.Dec.{T}
use Rattle.sequence.specs.declared.Doors.{Doors}
use Rattle.sequence.specs.declared.Doors.TheVariants.{Closed, Opening, Open, Closing}
use Rattle.sequence.specs.declared.Gears.{Gears}
use Rattle.sequence.specs.declared.Gears.TheVariants.{Retracted, Extending, Extended, Retracting}
use Rattle.sequence.specs.declared.Place.{Place}
use Rattle.orders.specs.Timing.{is_opening, is_closing, is_retracting, is_extending, wanted_of}

opening : (doors : Doors) → T (is_opening doors) → doors ≡ Opening
opening Closed h = absurd h
opening Opening h = refl
opening Open h = absurd h
opening Closing h = absurd h

closing : (doors : Doors) → T (is_closing doors) → doors ≡ Closing
closing Closed h = absurd h
closing Opening h = absurd h
closing Open h = absurd h
closing Closing h = refl

retracting : (gears : Gears) → T (is_retracting gears) → gears ≡ Retracting
retracting Retracted h = absurd h
retracting Extending h = absurd h
retracting Extended h = absurd h
retracting Retracting h = refl

extending : (gears : Gears) → T (is_extending gears) → gears ≡ Extending
extending Retracted h = absurd h
extending Extending h = refl
extending Extended h = absurd h
extending Retracting h = absurd h

both : {Fact : Type 0} (test rest : Bool) → (T test → Fact) → T (test && rest) → Fact × T rest
both true rest fact h = (fact tt, h)
both false rest fact h = absurd h

module _ (p : Place) (red : Bool) where
  pub close_says : T (wanted_of p red).closes → (p.doors ≡ Closing) × T (not red)
  unfolding wanted_of
  close_says = both (is_closing p.doors) (not red) (closing p.doors)

  pub open_says : T (wanted_of p red).opens → (p.doors ≡ Opening) × T (not red)
  unfolding wanted_of
  open_says = both (is_opening p.doors) (not red) (opening p.doors)

  pub retract_says : T (wanted_of p red).retracts → (p.gears ≡ Retracting) × T (not red)
  unfolding wanted_of
  retract_says = both (is_retracting p.gears) (not red) (retracting p.gears)

  pub extend_says : T (wanted_of p red).extends → (p.gears ≡ Extending) × T (not red)
  unfolding wanted_of
  extend_says = both (is_extending p.gears) (not red) (extending p.gears)
