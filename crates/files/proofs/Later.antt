-- What holds between two rows of a file: from row to row none of the four orders starts as its opposite stops; and once a row shows red,
-- every later row does, and nothing moves.
-- Assumes nothing.
use Prim.Native.Nat.{ℕ}
use mathlib.Core.Bool.{Bool, true, false}
use mathlib.Core.List.{List, [], ◌∷◌}
use mathlib.Core.Path.{◌≡◌, refl, ap, subst, ◌∙◌}
use lib.Dec.{T}
use Rattle.sequence.specs.declared.Place.{Place}
use Rattle.controller.specs.declared.State.{State}
use Rattle.controller.specs.declared.Shown.{Shown}
use Rattle.controller.specs.Start.{started_at}
use Rattle.controller.specs.Lamps.{lights_of, shown_of}
use Rattle.controller.specs.Samples.{Row, after}
use Rattle.laws.specs.Ages.Timer.{of_close, of_open, of_retract, of_extend}
use Rattle.laws.specs.Reached.{Reached}
use Rattle.laws.specs.Starts.Opposites.{close_open, open_close, retract_extend, extend_retract}
use Rattle.laws.specs.Times.{accepted_at, accepted_in}
use Rattle.laws.proofs.Latched.{once_red, general_off_in_1000}
use Rattle.laws.proofs.Starts.{none_starts_as_its_opposite_stops}
use Rattle.settling.specs.Runs.{next, is_taken, elapsed_in}
use Rattle.common.specs.Lists.{Each}
use Rattle.files.specs.Told.{Told, told}
use Rattle.files.specs.RowLaws.{Shows}
use Rattle.files.specs.Stretches.{elapsed_over, state_after}
use Rattle.files.specs.Later.{FromRowToRow, starts, NoneStartsAsItsOppositeStops, OfLaterRows, OnceRed, GeneralOffIn}
use Rattle.files.proofs.Told.{each}
use Rattle.files.proofs.Laws.{Sound, row_between, sound}
use Rattle.files.proofs.Stretches.{AllTaken, first_fine, stretch_runs}

-- ---- From row to row

-- What does not change does not start.
unchanged : (was : Bool) → T (starts was was) → ⊥
unchanged true h = h
unchanged false h = h

nothing_starts : (x : Shown) → NoneStartsAsItsOppositeStops x x
nothing_starts x = (
  λ h g. unchanged x.closes h,
  λ h g. unchanged x.opens h,
  λ h g. unchanged x.retracts h,
  λ h g. unchanged x.extends h,
)

-- None of the four starts in the row that stops its opposite.
pub none_starts_as_its_opposite_stops_in_a_file : (state : State) → Reached state → (input : List ℕ)
    → Each (FromRowToRow NoneStartsAsItsOppositeStops) (told state input)
unfolding shown_of started_at
none_starts_as_its_opposite_stops_in_a_file state reached input =
    each Sound (FromRowToRow NoneStartsAsItsOppositeStops)
    (λ t r. row_between (λ before after. NoneStartsAsItsOppositeStops (shown_of before) (shown_of after))
    (λ s from. nothing_starts (shown_of s))
    (λ s stamp from. nothing_starts (shown_of s))
    (λ s stamp bytes from.
    let none = none_starts_as_its_opposite_stops s from in (
      none of_close of_open close_open (stamp, bytes),
      none of_open of_close open_close (stamp, bytes),
      none of_retract of_extend retract_extend (stamp, bytes),
      none of_extend of_retract extend_retract (stamp, bytes),
    ))
    t r.right r.from)
    (told state input) (sound state reached input)

-- ---- A row and a later one

all_accepted : (s : State) (samples : List Row) → AllTaken (λ (t : State). Unit {0}) s samples → accepted_in s samples ≡ elapsed_in s samples
unfolding accepted_in accepted_at elapsed_in is_taken
all_accepted s [] all = refl
all_accepted s (r ∷ rs) all = let others = all_accepted (next s r) rs all.2 in rw (all.0, others)

nothing_asked : (ts : List Told) → Each (Shows (λ (s : State). Unit {0})) ts
nothing_asked [] = tt
nothing_asked (t ∷ ts) = (tt, nothing_asked ts)

-- What holds of every reached state over all further samples holds of every row that is answered and all later ones.
pub of_later_rows : (Holds : ℕ → State → State → Type 0) (Says : ℕ → Shown → Shown → Type 0)
    → ((elapsed : ℕ) (s later : State) → Holds elapsed s later → Says elapsed (shown_of s) (shown_of later))
    → ((s : State) → Reached s → (samples : List Row) → Holds (accepted_in s samples) s (after s samples))
    → OfLaterRows Says
of_later_rows Holds Says shows holds state reached input first rest stretch code row =
    let fine = first_fine state reached input first rest stretch in
    let run = stretch_runs state reached input first rest stretch (λ (s : State). Unit {0}) code row (nothing_asked rest) in
    let samples = run.0 in
    let s = first.after in
    let later = state_after s rest in
    let time : accepted_in s samples ≡ elapsed_over rest = all_accepted s samples run.1.taken ∙ run.1.time in
    shows (elapsed_over rest) s later
    (subst (λ (n : ℕ). Holds n s later) time
    (subst (λ (t : State). Holds (accepted_in s samples) s t) run.1.same (holds s fine.to samples)))

-- Once a row shows red, every later row shows red, doors and gears where they were, and the four orders off.
pub once_red_in_a_file : OfLaterRows OnceRed
unfolding shown_of lights_of
once_red_in_a_file =
    of_later_rows (λ elapsed s later. OnceRed elapsed (shown_of s) (shown_of later)) OnceRed (λ elapsed s later h. h)
    (λ s reached samples is_red.
    let latched = once_red s reached is_red samples in
    record {
      red = latched.is_red;
      doors = ap (λ (p : Place). p.doors) latched.nothing_moves;
      gears = ap (λ (p : Place). p.gears) latched.nothing_moves;
      four_off = latched.four_off;
      general = latched.general_stays;
    })

-- And general_EV is off once 1,000 ms have elapsed.
pub general_off_in_1000_in_a_file : OfLaterRows (GeneralOffIn 1000)
unfolding shown_of lights_of
general_off_in_1000_in_a_file =
    of_later_rows (λ elapsed s later. GeneralOffIn 1000 elapsed (shown_of s) (shown_of later)) (GeneralOffIn 1000) (λ elapsed s later h. h)
    (λ s reached samples is_red long. general_off_in_1000 s reached is_red samples long)
