-- `lines::next_cr` meets its contract. The loop's invariant: what the search is to find is what is to be found from here on,
-- since no byte that was passed is a CR (`proofs/Steps.antt`). The measure is what is left in front of `to`.
-- Assumes nothing.
use Prim.Native.Nat.{ℕ, ◌+◌}
use native.Mathlib.Omega.{arith}
use Rattle.lines.proofs.Steps.{Searched, cr_here, cr_past}
use Rattle.lines.proofs.next_cr.Goals as goal
use Rattle.lines.proofs.next_cr.Goals.{Else-part-i-eq-CR, Else-part-i-eq-CR-2, Else-part-i-eq-CR-3, In-loop-i}

-- In a turn: the search is `k` bytes further on. So it is behind each test that finds no CR.
abbrev On : In-loop-i → ℕ → Type 0
On c k = let a = c.args in Searched a.part.now a.from a.to (c.loop-i.i + k)

on_1 : (c : Else-part-i-eq-CR) → On (goal.at.Else-part-i-eq-CR c).In-loop-i 1
on_1 c = cr_past c.loop-i.invariant (omega arith) (omega arith) c.if-part-i-eq-CR.false

on_2 : (c : Else-part-i-eq-CR-2) → On (goal.at.Else-part-i-eq-CR-2 c).In-loop-i 2
on_2 c = cr_past (on_1 (goal.at.Else-part-i-eq-CR-2 c).Else-part-i-eq-CR) (omega arith) (omega arith) c.if-part-i-eq-CR-2.false

on_3 : (c : Else-part-i-eq-CR-3) → On (goal.at.Else-part-i-eq-CR-3 c).In-loop-i 3
on_3 c = cr_past (on_2 (goal.at.Else-part-i-eq-CR-3 c).Else-part-i-eq-CR-2) (omega arith) (omega arith) c.if-part-i-eq-CR-3.false

pub returns-then-part-i-eq-CR-2 : goal.returns-then-part-i-eq-CR-2
returns-then-part-i-eq-CR-2 c = let all = cr_here (on_1 (goal.at.returns-then-part-i-eq-CR-2 c).Else-part-i-eq-CR) (omega arith) c.if-part-i-eq-CR-2.true in record { value = all.0; upper_bound = all.1 }

pub returns-then-part-i-eq-CR-3 : goal.returns-then-part-i-eq-CR-3
returns-then-part-i-eq-CR-3 c = let all = cr_here (on_2 (goal.at.returns-then-part-i-eq-CR-3 c).Else-part-i-eq-CR-2) (omega arith) c.if-part-i-eq-CR-3.true in record { value = all.0; upper_bound = all.1 }

pub returns-then-part-i-eq-CR-4 : goal.returns-then-part-i-eq-CR-4
returns-then-part-i-eq-CR-4 c = let all = cr_here (on_3 (goal.at.returns-then-part-i-eq-CR-4 c).Else-part-i-eq-CR-3) (omega arith) c.if-part-i-eq-CR-4.true in record { value = all.0; upper_bound = all.1 }

pub loop-i-preserved : goal.loop-i-preserved
loop-i-preserved c = cr_past (on_3 (goal.at.loop-i-preserved c).Else-part-i-eq-CR-3) (omega arith) (omega arith) c.if-part-i-eq-CR-4.false
