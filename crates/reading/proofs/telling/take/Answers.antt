-- `reading::telling::take`: what is used lies in the part, and what is written in the output buffer.
-- Assumes nothing.
use Rattle.std.proofs.Common.{ℕ, List, ap, arith, length, length-append}
use Rattle.reading.specs.Answers.{Next}
use Rattle.reading.proofs.Lending.{used_within}
use Rattle.reading.proofs.telling.take.Goals as goal

pub returns-clause-used_in_bounds : goal.returns-clause-used_in_bounds
returns-clause-used_in_bounds g c =
    let used = ap (λ (x : Next × List ℕ). x.0.used) c.in_ok-next.ensures in
    let written = ap (λ (x : (g.row.T-Carried.Denot × ℕ) × List ℕ). x.0.1) c.tell-carried.ensures in
    let out = simp length-append at (ap (λ (x : (g.row.T-Carried.Denot × ℕ) × List ℕ). length x.1) c.tell-carried.ensures) in
    (omega (arith, used, used_within c.args.run c.args.part.now c.args.line.now), omega (arith, written, out, c.tell-carried.auto.out))
