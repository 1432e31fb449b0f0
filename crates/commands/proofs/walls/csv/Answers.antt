-- `commands::walls::csv` meets its contract: as many bytes are put out as the text has.
-- Assumes nothing.
use Prim.Native.Nat.{ℕ}
use native.Mathlib.Omega.{arith}
use mathlib.Core.List.{List}
use mathlib.Core.Path.{ap, ◌∙◌}
use Rattle.chart.specs.Csv.{csv_text}
use Rattle.chart.proofs.Lengths.{csv_length}
use Rattle.commands.proofs.Shows.{all_put}
use Rattle.commands.proofs.walls.csv.Goals as goal

pub returns : goal.returns
returns g c =
    let put = rw c.new-text.ensures at c.put_table.ensures in
    ap (λ (x : ℕ × List ℕ). x.0) put.put ∙ all_put _ csv_text (omega (arith, c.zeros-out.ensures.long, csv_length))
