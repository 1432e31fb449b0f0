-- Request K8, "every float handed out equals its fraction exactly": of the joined rig.
-- Assumes nothing.
use Rattle.std.proofs.Common.{◌≡◌, ℕ, zero, suc, ◌≤◌, Bool, true, false, not, ◌&&◌, ◌||◌, ◌⊎◌, List, [], ◌∷◌, get_or, sym, refl, inl, inr, zero-le, arith, lit≤}
use mathlib.Core.Bool.{or-false, false≢true}
use Rattle.std.specs.Prelude.{Option, None, Some, is_some}
use Rattle.common.specs.Lists.{some as some_of, Each, each_from}
use Rattle.orders.specs.declared.Orders.{Orders}
use Rattle.cylinder.specs.declared.Cylinder.{Cylinder}
use Rattle.cylinder.specs.declared.Drive.TheVariants.{Hold}
use Rattle.cylinder.specs.Fractions.{stroke}
use Rattle.cylinder.specs.Moves.{is_position, is_rate, is_sound, cylinder_at, BadCylinder, BadDrive, InParts}
use Rattle.cylinder.proofs.Taken.{none_is_not_some, position_of_fraction, shown_of_fraction}
use Rattle.cylinder.proofs.Laws.{held_by_parts, else_moved, handed_out}
use Rattle.joined.specs.declared.Given.{Given}
use Rattle.joined.specs.declared.Given.TheVariants.{Rate, StuckAt}
use Rattle.joined.specs.declared.Rig.{Rig}
use Rattle.joined.specs.Drives.{outward, inward, ordered, drive_by, is_bad, is_unsound, some_bad, no_given, moves_at, six_moved}
use Rattle.joined.specs.Drawn.{floats_of, IsFraction}
use Rattle.joined.specs.Rigs.{start_cylinders, start_of, moved_at, read_at, step_at, accepted_rig}
use Rattle.joined.proofs.Steps.{accepted_is}

-- ---- None is bad

neither : (a b : Bool) → (a || b) ≡ false → (a ≡ false) × (b ≡ false)
neither true b h = absurd (false≢true (sym h))
neither false b h = (refl, h)

taken : (parts : Option ℕ) → not (is_some parts) ≡ false → parts ≡ None → ⊥
taken None h e = false≢true (sym h)
taken (Some n) h e = none_is_not_some (sym e)

both_taken : (position rate : Option ℕ) → not (is_some position && is_some rate) ≡ false → (position ≡ None) ⊎ (rate ≡ None) → ⊥
both_taken None rate h bad = false≢true (sym h)
both_taken (Some k) None h bad = false≢true (sym h)
both_taken (Some k) (Some n) h (inl e) = none_is_not_some (sym e)
both_taken (Some k) (Some n) h (inr e) = none_is_not_some (sym e)

sound_is_not_bad : (c : Cylinder) → is_unsound c ≡ false → BadCylinder c → ⊥
unfolding is_unsound is_sound
sound_is_not_bad c sound bad = both_taken _ _ sound bad

good_drive : (outward inward : Bool) (given : Given) → is_bad given ≡ false → BadDrive (drive_by outward inward given) → ⊥
unfolding is_bad is_rate is_position ordered
good_drive true inward (Rate rate) good bad = taken _ good bad
good_drive false true (Rate rate) good bad = taken _ good bad
good_drive false false (Rate rate) good bad = bad
good_drive outward inward (StuckAt position) good bad = taken _ good bad

-- What stands past the six is not bad, so none is at any place.
none_bad_at : (givens : List Given) (i : ℕ) → some_of is_bad givens ≡ false → is_bad (get_or givens i no_given) ≡ false
unfolding some_of is_bad no_given is_position
none_bad_at [] i h = simp (position_of_fraction 0 zero-le)
none_bad_at (given ∷ givens) zero h = (neither (is_bad given) (some_of is_bad givens) h).0
none_bad_at (given ∷ givens) (suc i) h = none_bad_at givens i (neither (is_bad given) (some_of is_bad givens) h).1

-- ---- The cylinders

at_rest : (k : ℕ) → k ≤ stroke → InParts (cylinder_at k 0)
at_rest k on_stroke = handed_out (cylinder_at k 0) 0 Hold (cylinder_at k 0) (held_by_parts k 0 on_stroke zero-le 0)

-- The start hands out doors at 0 and gears at 1, exactly.
pub start_is_exact : (stamp : ℕ) → Each InParts (start_of stamp).cylinders
unfolding start_of start_cylinders
start_is_exact stamp =
    let closed = at_rest 0 zero-le in
    let extended = at_rest stroke (lit≤ tt) in
    (closed, (closed, (closed, (extended, (extended, (extended, tt))))))

module _ (os : Orders) (givens : List Given) (elapsed : ℕ) (good : some_of is_bad givens ≡ false) where
  move_is_exact : (i : ℕ) (c : Cylinder) → is_unsound c ≡ false → InParts (moves_at os givens elapsed i c)
  move_is_exact i c sound =
      let drive = drive_by (outward os i) (inward os i) (get_or givens i no_given) in
      let fine : BadCylinder c ⊎ BadDrive drive → ⊥ = λ bad. elim bad [
        | inl b ↦ sound_is_not_bad c sound b
        | inr b ↦ good_drive (outward os i) (inward os i) (get_or givens i no_given) (none_bad_at givens i good) b
      ] in
      let given = else_moved c elapsed drive fine in
      rw given.1 (handed_out c elapsed drive given.0 given.1)

  moves_are_exact : (i : ℕ) (cs : List Cylinder) → some_of is_unsound cs ≡ false → Each InParts (each_from (moves_at os givens elapsed) i cs)
  unfolding some_of each_from
  moves_are_exact i [] h = tt
  moves_are_exact i (c ∷ cs) h =
      let each = neither (is_unsound c) (some_of is_unsound cs) h in
      (move_is_exact i c each.0, moves_are_exact (suc i) cs each.1)

-- An accepted step hands out six cylinders whose floats equal their fractions exactly, whatever rig was handed in. (A refused one hands back the
-- rig that was handed in: `refused_keeps`.)
pub step_is_exact : (limit : ℕ) (rig : Rig) (stamp : ℕ) (down : Bool) (givens : List Given)
    → (step_at limit rig stamp down givens).refusal ≡ 0 → Each InParts (step_at limit rig stamp down givens).rig.cylinders
unfolding accepted_rig read_at moved_at six_moved some_bad
step_is_exact limit rig stamp down givens is_accepted =
    let so = accepted_is limit rig stamp down givens is_accepted in
    let good = neither (some_of is_bad givens) (some_of is_unsound rig.cylinders) so.none_bad in
    rw so.after (moves_are_exact rig.controller.core.orders givens _ good.0 0 rig.cylinders good.1)

-- ---- For the drawing engine

-- So each float that it is handed equals its fraction.
pub drawn_is_exact : (cs : List Cylinder) → Each InParts cs → Each IsFraction (floats_of cs)
unfolding floats_of
drawn_is_exact [] each = tt
drawn_is_exact (c ∷ cs) each =
    let p = each.0 in
    ((p.stands_at, p.on_stroke, p.exact_position), ((p.shows, omega arith, p.exact_rate), drawn_is_exact cs each.1))

-- ---- From the start on

exact_is_sound : (c : Cylinder) → InParts c → is_unsound c ≡ false
unfolding is_unsound is_sound cylinder_at
exact_is_sound c p = rw p.itself (simp (position_of_fraction p.stands_at p.on_stroke, shown_of_fraction p.shows p.no_faster))

exact_are_sound : (cs : List Cylinder) → Each InParts cs → some_of is_unsound cs ≡ false
unfolding some_of
exact_are_sound [] each = refl
exact_are_sound (c ∷ cs) each = rw (exact_is_sound c each.0) (exact_are_sound cs each.1)

-- With such cylinders, as the start and every step hands them out, 13 is for what is given alone.
pub thirteen_for_what_is_given : (givens : List Given) (cs : List Cylinder) → Each InParts cs → some_bad givens cs ≡ some_of is_bad givens
unfolding some_bad
thirteen_for_what_is_given givens cs each = rw (exact_are_sound cs each, or-false (some_of is_bad givens))
