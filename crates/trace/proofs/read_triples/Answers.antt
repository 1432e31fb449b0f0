-- `trace::read_triples` meets its contract.
-- Assumes nothing.
use Rattle.std.proofs.Common.{◌≡◌, ℕ, ◌+◌, ◌-◌, ◌*◌, List, sym, add_assoc, length-take, length-append, ◌∙◌, ap, arith, length, take, drop, length-drop}
use Rattle.common.specs.Answers.{gives}
use Rattle.trace.specs.Numbers.{triple_of}
use Rattle.trace.specs.Rows.{up_to_comma}
use Rattle.trace.proofs.Triples.{turn_taken, all_taken, one_too_many}
use Rattle.trace.proofs.read_triples.Goals as goal
use Rattle.trace.proofs.read_triples.Goals.{In-Some, After-field-part}

-- The part that was read is the field at `next`.
part : (c : After-field-part) → c.field-part.result.now ≡ up_to_comma (drop c.loop-i.next c.args.row.now)
part c = ap (λ p. p.1) c.field-part.ensures

triple : (c : In-Some) → gives c.in-Some.bits ≡ triple_of (up_to_comma (drop c.loop-i.next c.args.row.now))
triple c = c.in-Some.ensures ∙ ap triple_of (part (goal.at.In-Some c).After-field-part)

pub loop-i-preserved : goal.loop-i-preserved
loop-i-preserved c =
    let l = c.loop-i in
    let copy = c.copy_from_slice in
    let at = goal.at.loop-i-preserved c in
    let three : length copy.new.self ≡ 3 = copy.ensures.len ∙ simp (length-take, length-drop) (omega arith) in
    record {
      whole = simp (length-append, length-take, length-drop) (omega arith);
      so_far =
          l.invariant.so_far
          ∙ turn_taken c.args.row.now l.next l.i c.loop-i-test.true l.channels copy.new.self (3 * l.i + 3 - 3 * l.i) l.invariant.whole three (ap (λ (b : List ℕ). gives b) copy.ensures.after ∙ triple at.In-Some)
          ∙ rw (← part at.After-field-part) (simp add_assoc);
    }

pub returns-then-next-row : goal.returns-then-next-row
returns-then-next-row c =
    let all : c.loop-i.i ≡ 18 = omega arith in
    sym (c.loop-i.invariant.so_far ∙ rw all (one_too_many c.args.row.now c.loop-i.next (take 54 c.loop-i.channels) c.if-next-row.true))

pub returns : goal.returns
returns c =
    let all : c.loop-i.i ≡ 18 = omega arith in
    sym (c.loop-i.invariant.so_far ∙ rw all (all_taken c.args.row.now c.loop-i.next c.loop-i.channels c.loop-i.invariant.whole c.if-next-row.false))
