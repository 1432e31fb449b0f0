-- `plain::put` meets its contract: all lines have room in a line of their own, and are handed over.
-- Assumes nothing.
use native.Mathlib.Omega.{arith}
use borrow.Author.Rules.{rules}
use mathlib.Core.Path.{◌≡◌, ◌∙◌}
use lib.ListN.{length}
use Rattle.texts.proofs.Lines.{told, same_put}
use Rattle.plain.proofs.Sizes.{all_length}
use Rattle.plain.proofs.put.Goals as goal

pub returns : goal.returns
returns c =
    let lent : length c.new-text.result.bytes.now ≡ 2563 = search rules in
    let wide : length c.args.state.voters ≡ 18 = search rules in
    same_put (c.text.ensures ∙ told c.put_all.ensures (search rules) (omega (arith, all_length c.args.state wide))) c.put.ensures
