-- `running::run` meets its contract: the header, and the loop.
-- Assumes nothing.
use Rattle.std.proofs.Common.{ℕ, List, ap}
use Rattle.running.proofs.Along.{through_whole}
use Rattle.running.proofs.run.Goals as goal

pub returns : goal.returns
returns g c =
    let n = c.put_header-n in
    let start = c.start in
    through_whole g.T.Task.rule c.args.state start.result n.result c.in_ok-ran.ran start.ensures (ap (λ (x : ℕ × List ℕ). x.0) n.ensures)
    c.in_ok-ran.ensures
