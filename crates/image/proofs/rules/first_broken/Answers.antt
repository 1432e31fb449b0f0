-- `image::rules::first_broken` meets its contract: the first test that fails.
-- Assumes nothing.
use Rattle.std.proofs.Common.{◌≡◌, not, rules, tests, ap, ◌∙◌, Option, ℕ}
use mathlib.Core.Path.{subst⁻¹}
use Rattle.std.specs.List.{position}
use Rattle.std.proofs.lemmas.Iterator.{YieldsList-from_slice}
use Rattle.std.proofs.lemmas.Iterator.Search.{position_from_yields_List}
use Rattle.image.specs.Rules.{rule_count, rules as tests_of}
use Rattle.image.specs.Faults.{first_broken, IsPlace}
use Rattle.image.proofs.Faulty.{rule_found}
use Rattle.image.proofs.rules.first_broken.Goals as goal

pub returns : goal.returns
returns c =
    let found : c.position.result ≡ position not c.tests.result =
    position_from_yields_List not _ _ c.position.result c.position.ensures.ran (YieldsList-from_slice c.tests.result cc) (λ x b q k. search (rules, tests)) in
    let place : Option ℕ → Type 0 = IsPlace rule_count (first_broken (tests_of c.args.state)) in
    subst⁻¹ place (found ∙ ap (position not) c.tests.ensures) (rule_found c.args.state)
