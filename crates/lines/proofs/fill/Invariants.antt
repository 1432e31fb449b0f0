-- `lines::fill` meets its contract. The loop's invariant: the rule gives the same at the start as from here on, since each
-- turn is one line of the rule (`proofs/Steps.antt`), and then what `until_cr` ensures. The measure is what is left of the part.
-- Assumes nothing.
use Prim.Native.Nat.{◌-◌, ◌≤◌}
use mathlib.Core.Path.{◌≡◌}
use lib.ListN.{length, drop}
use Rattle.lines.specs.Cuts.{cut_from}
use Rattle.lines.proofs.fill.Given as goal

abbrev pub invariant-loop-at : goal.invariant-loop-at
invariant-loop-at l =
    (length l.line ≡ length l.initial.line) × (l.n ≤ length l.line)
    × (cut_from (length l.part) l.initial.line l.len (drop l.from l.part) ≡ cut_from (length l.part) l.line l.n (drop l.at l.part))

abbrev pub decreases-loop-at : goal.decreases-loop-at
decreases-loop-at l = length l.part - l.at
