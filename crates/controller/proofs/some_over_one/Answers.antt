-- `controller::some_over_one` meets its contract: some byte passes the test.
-- Assumes nothing.
use Rattle.std.proofs.Common.{ltb, sym, ◌∙◌, rules, tests}
use Rattle.std.proofs.lemmas.Iterator.{YieldsList-from_slice}
use Rattle.std.proofs.lemmas.Iterator.Search.{any_from_yields_List}
use Rattle.common.proofs.Searches.{some_is_any}
use Rattle.controller.specs.Steps.{some_over_one}
use Rattle.controller.proofs.some_over_one.Goals as goal

pub returns : goal.returns
unfolding some_over_one
returns c =
    any_from_yields_List (ltb 1) _ _ _ c.any.ensures.ran (YieldsList-from_slice _ c.iter.ensures.rest) (λ x b q k. search (rules, tests)) ∙ sym (some_is_any (ltb 1) _)
