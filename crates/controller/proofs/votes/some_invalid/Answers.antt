-- `controller::votes::some_invalid` meets its contract: some sensor passes the test.
-- Assumes nothing.
use Rattle.std.proofs.Common.{sym, ◌∙◌, rules, tests}
use Rattle.std.proofs.lemmas.Iterator.{YieldsList-from_slice}
use Rattle.std.proofs.lemmas.Iterator.Search.{any_from_yields_List}
use Rattle.common.proofs.Searches.{some_is_any}
use Rattle.voter.specs.Voting.{is_invalid}
use Rattle.controller.specs.Votes.{some_invalid}
use Rattle.controller.proofs.votes.some_invalid.Goals as goal

pub returns : goal.returns
unfolding some_invalid
returns c =
    any_from_yields_List is_invalid _ _ _ c.any.ensures.ran (YieldsList-from_slice _ c.iter.ensures.rest) (λ x b q k. search (rules, tests)) ∙ sym (some_is_any is_invalid _)
