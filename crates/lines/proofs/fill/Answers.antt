-- `lines::fill` meets its contract. The loop's invariant: the rule gives the same at the start as from here on, since each
-- turn is one line of the rule (`proofs/Steps.antt`), and then what `until_cr` ensures. The measure is what is left of the part.
-- Assumes nothing.
use Prim.Native.Nat.{◌+◌}
use mathlib.Core.List.{◌∷◌}
use mathlib.Core.Path.{◌≡◌, sym, ◌∙◌}
use native.Mathlib.Omega.{arith}
use lib.ListN.{length, drop, get_or, length-set}
use Rattle.lines.specs.Cuts.{cut_from}
use Rattle.lines.proofs.Steps.{OfRow, here, no_cr, no_lf, on_byte, on_over, held_at}
use Rattle.lines.proofs.fill.Goals as goal
use Rattle.lines.proofs.fill.Goals.{In-loop-at, Joined-b-eq-CR, then-b-eq-CR+else-next-part+else-part-next-eq-LF, else-b-eq-CR}

-- In a turn: the rule at the start gives what it gives at this byte.
turn : (c : In-loop-at)
    → (let p = c.args.part.now in
    let l = c.loop-at in
    cut_from (length p) c.args.line.now c.args.len (drop c.args.from p)
    ≡ cut_from (length p) l.line l.n (get_or p l.at 0 ∷ drop (l.at + 1) p))
turn c = c.loop-at.invariant.2 ∙ rw (here c.args.part.now c.loop-at.at (omega arith))

-- Where the tests for a CR are past, the byte is one of the row.
of_row : (c : Joined-b-eq-CR)
    → (let p = c.args.part.now in
    let at = c.loop-at.at in OfRow (get_or p at 0) (drop (at + 1) p))
of_row c =
    let p = c.args.part.now in
    let at = c.loop-at.at in
    elim c.if-b-eq-CR.branch [
      | then-b-eq-CR+else-next-part+else-part-next-eq-LF w ↦ no_lf (get_or p at 0) p (at + 1) (omega arith) w.if-part-next-eq-LF.false
      | else-b-eq-CR w ↦ no_cr (get_or p at 0) (drop (at + 1) p) w.if-b-eq-CR.false
    ]

pub returns-then-next-part : goal.returns-then-next-part
returns-then-next-part c =
    let p = c.args.part.now in
    let l = c.loop-at in
    sym (turn (goal.at.returns-then-next-part c).In-loop-at
    ∙ held_at p l.line l.n (get_or p l.at 0) (l.at + 1) (omega arith) c.if-b-eq-CR.true)

pub returns-then-n-line : goal.returns-then-n-line
returns-then-n-line c =
    let p = c.args.part.now in
    let l = c.loop-at in
    sym (turn (goal.at.returns-then-n-line c).In-loop-at
    ∙ on_over (length p) l.line l.n (get_or p l.at 0) (drop (l.at + 1) p) (of_row (goal.at.returns-then-n-line c).Joined-b-eq-CR) (omega arith))

pub loop-at-preserved : goal.loop-at-preserved
loop-at-preserved c =
    let p = c.args.part.now in
    let l = c.loop-at in
    let taken = c.until_cr-more in
    let kept : length taken.new.line ≡ length l.line = taken.auto.line ∙ simp length-set in (
      rw kept l.invariant.0,
      omega (arith, kept, simp length-set at taken.ensures.result_in_bounds_2),
      rw (← taken.ensures.part_value)
          (turn (goal.at.loop-at-preserved c).In-loop-at
          ∙ on_byte (length p) l.line l.n (get_or p l.at 0) (drop (l.at + 1) p) (of_row (goal.at.loop-at-preserved c).Joined-b-eq-CR) (omega arith)),
    )
