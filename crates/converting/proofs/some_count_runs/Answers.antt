-- `converting::some_count_runs` meets its contract: an iterator's `any` is the rules' `some`.
-- Assumes nothing.
use Rattle.std.proofs.Common.{rules, tests, sym, ◌∙◌}
use Rattle.std.proofs.lemmas.Iterator.{YieldsList-from_slice}
use Rattle.std.proofs.lemmas.Iterator.Search.{any_from_yields_List}
use Rattle.common.proofs.Searches.{some_is_any}
use Rattle.voter.specs.Counts.{count_runs}
use Rattle.converting.proofs.some_count_runs.Goals as goal

pub returns : goal.returns
returns c =
    any_from_yields_List count_runs _ _ c.any.result c.any.ensures.ran (YieldsList-from_slice c.args.voters cc) (λ x b q k. search (rules, tests))
    ∙ sym (some_is_any count_runs c.args.voters)
