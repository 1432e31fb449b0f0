-- `commands::walls::page` meets its contract: as many bytes are put out as the text has.
-- Assumes nothing.
use Prim.Native.Nat.{ℕ}
use native.Mathlib.Omega.{arith}
use mathlib.Core.List.{List}
use mathlib.Core.Path.{ap, ◌∙◌}
use Rattle.chart.specs.Page.{page_text}
use Rattle.chart.proofs.Lengths.{page_length}
use Rattle.commands.proofs.Shows.{all_put}
use Rattle.commands.proofs.walls.page.Goals as goal

pub returns : goal.returns
returns g c =
    let put = rw c.new-text.ensures at c.put_page.ensures in
    ap (λ (x : ℕ × List ℕ). x.0) put.put ∙ all_put _ page_text (omega (arith, c.zeros-out.ensures.long, page_length))
