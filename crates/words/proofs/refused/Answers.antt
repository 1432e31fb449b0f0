-- `words::refused` meets its contract: the line fits, and is said.
-- Assumes nothing.
use mathlib.Core.Path.{ap, ◌∙◌}
use Rattle.texts.proofs.Lines.{told}
use Rattle.words.specs.Messages.{is_at_once}
use Rattle.words.proofs.Sizes.{refused_fits}
use borrow.Author.Rules.{rules}
use Rattle.words.proofs.refused.Goals as goal

pub returns : goal.returns
returns g c =
    let a = c.args in
    let fits = refused_fits a.line a.refusal c.has_lf.result (search rules) (search rules) in
    rw (← c.has_lf.ensures) (c.say.ensures ∙ ap (is_at_once a.name.now) (c.text.ensures ∙ told c.put_refused.ensures (search rules) (search rules)))
