-- `dumping::moment` meets its contract: what changes is written.
-- Assumes nothing.
use Rattle.std.proofs.Common.{◌≡◌, length, ◌∙◌, ap, rules}
use Rattle.dumping.proofs.Telling.{told_by, told_next}
use Rattle.dumping.proofs.moment.Goals as goal

pub returns : goal.returns
returns c =
    let wide : length c.wires.result ≡ 26 = search rules in
    rw c.behind.ensures
    (ap told_by c.next.ensures ∙ told_next c.args.dump c.from.result c.wires.result c.args.out.now wide c.requires ∙ rw (c.from.ensures, c.wires.ensures))
