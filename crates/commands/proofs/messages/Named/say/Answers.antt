-- `commands::messages::Named::say` meets its contract: what is said of a file is put together, and lies within the array.
-- Assumes nothing.
use mathlib.Core.Bool.{true≢false}
use mathlib.Core.Path.{sym, ap, subst, ◌∙◌}
use borrow.Author.Tests.{eq-eqb}
use lib.Dec.{T, eqb→eq}
use lib.ListN.{length}
use Rattle.std.proofs.Common.{rules, ◌≤◌}
use Rattle.texts.proofs.Lines.{told}
use Rattle.words.specs.Messages.{is_at_once}
use Rattle.commands.specs.Messages.{of_file}
use Rattle.commands.proofs.Putting.{without_path, with_path}
use Rattle.commands.proofs.messages.Named.say.Goals as goal

pub returns-then-is_empty : goal.returns-then-is_empty
returns-then-is_empty g c room =
    let empty = eqb→eq _ 0 (subst T (sym c.if-is_empty.true ∙ c.is_empty.ensures) tt) in
    c.say.ensures ∙ ap (is_at_once _) (sym (without_path _ _ empty))

pub returns : goal.returns
returns g c room =
    let said = with_path c.args.self.now.path.now c.args.what.now (λ e. true≢false (sym (eq-eqb _ 0 e) ∙ sym c.is_empty.ensures ∙ c.if-is_empty.false)) in
    let fits : length (of_file c.args.self.now.path.now c.args.what.now) ≤ 4352 = rw said at room in
    c.say-2.ensures ∙ ap (is_at_once _) (c.text.ensures ∙ told c.put_of_file.ensures (search rules) (search rules) ∙ sym said)
