-- `plain::put_item` meets its contract: the text has room in a line of its own, and is handed over.
-- Assumes nothing.
use native.Mathlib.Omega.{arith}
use borrow.Author.Rules.{rules}
use mathlib.Core.Path.{◌≡◌, ◌∙◌}
use lib.ListN.{length}
use Rattle.texts.proofs.Lines.{told, same_put}
use Rattle.plain.proofs.Named.{item_length}
use Rattle.plain.proofs.put_item.Goals as goal

pub returns : goal.returns
returns c =
    let lent : length c.new-text.result.bytes.now ≡ 38 = search rules in
    same_put (c.text.ensures ∙ told c.put_name.ensures (search rules) (omega (arith, item_length c.args.k))) c.put.ensures
