-- `chart::page::put_else` meets its contract: what comes next with none of the facts, and nothing where no fact is named.
-- Assumes nothing.
use Rattle.std.proofs.Common.{◌≡◌, true, rules}
use Rattle.chart.specs.Differences.{is_named}
use Rattle.chart.specs.Page.{else_text}
use Rattle.texts.proofs.Lines.{put, and}
use Rattle.chart.proofs.page.put_else.Goals as goal

pub returns-then-is_some : goal.returns-then-is_some
unfolding else_text
returns-then-is_some c =
    let named : is_named c.args.fact ≡ true = search rules in
    let next = rw c.next_with.ensures at c.put_next.ensures in
    rw named (and (and (put c.put.ensures) next) (put c.put-then-is_some.ensures))
