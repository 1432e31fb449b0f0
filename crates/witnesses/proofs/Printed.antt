-- 001 as printed: with the handle held down for longer than the bound of demand 3, and sensors that follow the orders, it
-- neither settles nor lights red. It differs from document 01 only in doors CLOSING. The rules compute.
-- Assumes nothing.
use mathlib.Core.Path.{◌≡◌, refl}
use lib.Dec.{T, lit<}
use Rattle.sequence.specs.declared.Doors.{Doors}
use Rattle.sequence.specs.declared.Doors.TheVariants.{Closed, Opening, Open, Closing}
use Rattle.sequence.specs.declared.Gears.{Gears}
use Rattle.sequence.specs.declared.Aim.{Aim}
use Rattle.sequence.specs.declared.Aim.TheVariants.{ToRetracted, ToExtended}
use Rattle.sequence.specs.declared.Seen.{Seen}
use Rattle.sequence.specs.Moves.{place, doors_to_gears, move_of}
use Rattle.controller.specs.Shows.{red}
use Rattle.controller.specs.Samples.{after}
use Rattle.laws.specs.Bounds.{bound_for}
use Rattle.witnesses.specs.AsPrinted.{
  printed_move_of,
  printed_sequence,
  printed_stage,
  printed_accepted,
  printed_step,
  printed_states,
  closing_retracted,
  handle_down,
  span_of,
  hangs,
  throughout,
  HangsPastTheBound,
}
use Rattle.laws.proofs.Computing.{runs}

pub differs_only_in_closing : (aim : Aim) (doors : Doors) (gears : Gears) (seen : Seen) → ¬ (doors ≡ Closing) → printed_move_of aim (place doors gears) seen ≡ move_of aim (place doors gears) seen
unfolding printed_move_of move_of doors_to_gears
differs_only_in_closing ToRetracted doors gears seen h = refl
differs_only_in_closing ToExtended Closed gears seen h = refl
differs_only_in_closing ToExtended Opening gears seen h = refl
differs_only_in_closing ToExtended Open gears seen h = refl
differs_only_in_closing ToExtended Closing gears seen h = absurd (h refl)

-- 249 samples, of 24,800 ms.
pub as_printed_it_neither_settles_nor_lights_red : HangsPastTheBound closing_retracted handle_down
unfolding runs bound_for printed_move_of printed_sequence printed_stage printed_accepted printed_step printed_states closing_retracted handle_down span_of hangs throughout
as_printed_it_neither_settles_nor_lights_red = (tt, lit< tt)

-- Document 01 opens the doors again, and lights red when the same samples show that they stay closed.
pub with_the_case_added_it_lights_red : T (red (after closing_retracted handle_down))
unfolding runs closing_retracted handle_down
with_the_case_added_it_lights_red = tt
