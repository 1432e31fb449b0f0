-- `plain::put_rule` meets its contract: the text has room in a line of its own, and is handed over.
-- Assumes nothing.
use native.Mathlib.Omega.{arith}
use borrow.Author.Rules.{rules}
use mathlib.Core.Path.{◌≡◌, ◌∙◌}
use lib.ListN.{length}
use Rattle.texts.proofs.Lines.{told, same_put}
use Rattle.plain.proofs.Named.{rule_length}
use Rattle.plain.proofs.put_rule.Goals as goal

pub returns : goal.returns
returns c =
    let lent : length c.new-text.result.bytes.now ≡ 70 = search rules in
    same_put (c.text.ensures ∙ told c.put_words.ensures (search rules) (omega (arith, rule_length c.args.k))) c.put.ensures
