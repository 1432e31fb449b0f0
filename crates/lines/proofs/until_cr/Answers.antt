-- `lines::until_cr` meets its contract: what the search answers and the copy leaves is what the rule does with those bytes
-- (`proofs/Steps.antt`).
-- Assumes nothing.
use Prim.Native.Nat.{◌-◌}
use mathlib.Core.Path.{◌≡◌, ◌∙◌}
use native.Mathlib.Omega.{arith}
use lib.ListN.{length-take, length-drop}
use Rattle.lines.proofs.Steps.{bytes_at}
use Rattle.lines.proofs.until_cr.Goals as goal

pub returns : goal.returns
returns c = let a = c.args in
    let m = c.min-most.result in
    let next = c.next_cr-end in
    let copy = c.copy in
    let e : copy.result ≡ next.result - a.from = copy.ensures.count ∙ simp (length-take, length-drop) (omega arith) in record {
      result_in_bounds = omega arith;
      result_in_bounds_2 = omega arith;
      part_value = bytes_at a.part.now a.line.now a.from a.len m next.result copy.result copy.new.dst (omega arith) (omega arith)
          next.ensures.value next.ensures.upper_bound copy.ensures.count copy.ensures.after;
    }
