-- `dump::Dump::next` meets its contract: no room, no such time, and a moment.
-- Assumes nothing.
use native.Mathlib.Omega.{arith}
use borrow.Author.Rules.{rules}
use mathlib.Core.Path.{◌≡◌, ap, ◌∙◌}
use lib.ListN.{length}
use lib.Seq.{take_all}
use Rattle.texts.proofs.Lines.{told}
use Rattle.dump.specs.Dumps.{moment_text}
use Rattle.dump.proofs.Late.{no_room, none_passed, too_late, no_moment, moment}
use Rattle.dump.proofs.Lengths.{moment_length}
use Rattle.dump.proofs.Dump.next.Goals as goal
use Rattle.dump.proofs.Dump.next.Goals.{then-elapsed-eq0-via-then-elapsed-eq0, then-elapsed-eq0-via-else-elapsed-eq0+then-self-elapsed, After-text-moment}

-- What is handed over is the moment.
told_moment : (c : After-text-moment)
    → c.text-moment.result.now ≡ moment_text c.args.self.values (record { time = c.saturating_add-time.result; values = c.args.values })
told_moment c =
    let wide : length c.args.values ≡ 26 = search rules in
    let lent : length c.new-line.result.bytes.now ≡ 100 = search rules in
    c.text-moment.ensures ∙ told c.put_moment.ensures (search rules) (omega (arith, lent, moment_length c.args.self.values (record { time = c.saturating_add-time.result; values = c.args.values }) wide))

pub returns-then-out-moment : goal.returns-then-out-moment
returns-then-out-moment c =
    let a = c.args in
    let long = ap length (told_moment (goal.at.returns-then-out-moment c).After-text-moment) in
    no_room a.self a.elapsed a.values a.out.now c.saturating_add-time.result c.saturating_add-time.ensures (omega (arith, long))

pub returns-then-elapsed-eq0 : goal.returns-then-elapsed-eq0
returns-then-elapsed-eq0 c =
    let a = c.args in
    let long = ap length (told_moment (goal.at.returns-then-elapsed-eq0 c).After-text-moment) in
    no_moment a.self a.elapsed a.values a.out.now c.saturating_add-time.result c.saturating_add-time.ensures (omega (arith, long))
    (elim c.then-elapsed-eq0.branch [
      | then-elapsed-eq0-via-then-elapsed-eq0 w ↦ none_passed a.self a.elapsed w.if-elapsed-eq0.true
      | then-elapsed-eq0-via-else-elapsed-eq0+then-self-elapsed w ↦ too_late a.self a.elapsed (omega arith)
    ])

pub returns : goal.returns
returns c =
    let a = c.args in
    let same = told_moment (goal.at.returns c).After-text-moment in
    let whole = take_all (length c.text-moment.result.now) c.text-moment.result.now (omega arith) in
    rw (c.copy.ensures.count, c.copy.ensures.after, whole, same)
    (moment a.self a.elapsed a.values a.out.now c.saturating_add-time.result c.saturating_add-time.ensures (omega (arith, ap length same)) c.if-elapsed-eq0.false (omega arith))
