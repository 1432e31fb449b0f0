-- `image::rules::hold` meets its contract: no rule is found broken.
-- Assumes nothing.
use Rattle.std.proofs.Common.{sym, ◌∙◌}
use Rattle.image.proofs.Searching.{none_found}
use Rattle.image.proofs.Faulty.{rules_kept}
use Rattle.image.proofs.rules.hold.Goals as goal

pub returns : goal.returns
returns c = none_found _ _ _ _ c.first_broken.ensures c.is_none.ensures ∙ sym (rules_kept _)
