-- `dump::Dump::start` meets its contract: the head is put in front where there is room for it.
-- Assumes nothing.
use native.Mathlib.Omega.{arith}
use borrow.Author.Tests.{lt-ltb, le-ltb}
use borrow.Author.Rules.{rules}
use mathlib.Core.Path.{◌≡◌, ap, ◌∙◌}
use lib.ListN.{length}
use lib.Seq.{take_all}
use Prim.Native.Nat.{◌≤◌}
use Rattle.texts.proofs.Lines.{told}
use Rattle.dump.specs.Dumps.{head_text}
use Rattle.dump.specs.Writes.{placed, start_of}
use Rattle.dump.proofs.Lengths.{head_length}
use Rattle.dump.proofs.Dump.start.Goals as goal
use Rattle.dump.proofs.Dump.start.Goals.{After-text-head}

-- What is handed over is the head.
head : (c : After-text-head) → c.text-head.result.now ≡ head_text c.args.values
head c =
    let wide : length c.args.values ≡ 26 = search rules in
    let lent : length c.new-line.result.bytes.now ≡ 1078 = search rules in
    c.text-head.ensures ∙ told c.put_head.ensures (search rules) (omega (arith, lent, head_length c.args.values wide))

pub returns-then-out-head : goal.returns-then-out-head
unfolding start_of placed
returns-then-out-head c =
    let a = c.args in
    let long = ap length (head (goal.at.returns-then-out-head c).After-text-head) in
    rw (lt-ltb (length a.out.now) (length (head_text a.values)) (omega (arith, c.if-out-head.true, long)))

pub returns : goal.returns
unfolding start_of placed
returns c =
    let a = c.args in
    let same = head (goal.at.returns c).After-text-head in
    let room : length (head_text a.values) ≤ length a.out.now = omega (arith, c.if-out-head.false, ap length same) in
    let whole = take_all (length c.text-head.result.now) c.text-head.result.now (omega arith) in
    rw (le-ltb (length a.out.now) (length (head_text a.values)) room, c.copy.ensures.count, c.copy.ensures.after, whole, same)
