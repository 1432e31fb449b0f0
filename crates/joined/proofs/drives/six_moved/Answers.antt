-- `joined::drives::six_moved` meets its contract: after i turns the first i cylinders have moved.
-- Assumes nothing.
use Rattle.std.proofs.Common.{◌≡◌, ◌<◌, ◌≤◌, List, length, get_or, set, refl, ap, ◌∙◌, ap₂, arith}
use Rattle.std.specs.Prelude.{Result, Ok, Err}
use Rattle.std.specs.Result.{result_unwrap_or}
use Rattle.common.proofs.Loops.{up_to_next, up_to_turn, up_to_all, get_or_within}
use Rattle.refusals.specs.declared.Refusal.{Refusal}
use Rattle.refusals.specs.Answers.{says}
use Rattle.cylinder.specs.declared.Cylinder.{Cylinder}
use Rattle.cylinder.specs.declared.Drive.{Drive}
use Rattle.cylinder.specs.Moves.{moved}
use Rattle.joined.specs.Drives.{outward, inward, drive_by, moved_or, no_given, moves_at, six_moved}
use Rattle.joined.proofs.drives.six_moved.Goals as goal

-- A cylinder after its move, or as it was.
moved_or_kept : (c : Cylinder) (r : Result Cylinder Refusal) → result_unwrap_or r c ≡ moved_or c (says r)
moved_or_kept c (Ok later) = refl
moved_or_kept c (Err why) = refl

pub loop-i-preserved : goal.loop-i-preserved
loop-i-preserved c =
    let at = c.loop-i in
    let a = c.args in
    let within : at.i < length a.cylinders = omega arith in
    let told : at.i < length a.given = omega arith in
    let x = get_or at.after at.i _ in
    let f = moves_at a.orders a.given a.elapsed in
    let drive = ap (drive_by (outward a.orders at.i) (inward a.orders at.i)) (get_or_within a.given at.i _ no_given told) in
    let one_move : c.unwrap_or.result ≡ f at.i x =
    c.unwrap_or.ensures
    ∙ moved_or_kept x c.moved.result
    ∙ ap (moved_or x) (c.moved.ensures ∙ ap (λ (d : Drive). moved x d a.elapsed) (c.drive_by.ensures ∙ drive)) in
    ap₂ (λ (l : List Cylinder) (v : Cylinder). set l at.i v) at.invariant (one_move ∙ ap (f at.i) (ap (λ (l : List Cylinder). get_or l at.i _) at.invariant ∙ up_to_next f 0 at.i a.cylinders _))
    ∙ up_to_turn f at.i a.cylinders _ within

pub returns : goal.returns
unfolding six_moved
returns c =
    let a = c.args in
    let at = c.loop-i in
    let past : length a.cylinders ≤ at.i = omega arith in
    at.invariant ∙ up_to_all (moves_at a.orders a.given a.elapsed) 0 at.i a.cylinders past
