-- `words::nine` meets its contract: the line fits, and is said.
-- Assumes nothing.
use mathlib.Core.Path.{ap, ◌∙◌}
use Rattle.texts.proofs.Lines.{told}
use Rattle.words.specs.Messages.{is_at_once}
use Rattle.words.proofs.Sizes.{nine_fits}
use borrow.Author.Rules.{rules}
use Rattle.words.proofs.nine.Goals as goal

pub returns : goal.returns
returns g c =
    let a = c.args in
    let fits = nine_fits a.line a.rows (search rules) (search rules) in
    c.say.ensures ∙ ap (is_at_once a.name.now) (c.text.ensures ∙ told c.put_nine.ensures (search rules) (search rules))
