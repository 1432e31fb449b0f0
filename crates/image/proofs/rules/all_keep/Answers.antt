-- `image::rules::all_keep` meets its contract: an iterator's `all` is the rules'.
-- Assumes nothing.
use Rattle.std.proofs.Common.{rules, tests, sym, ◌∙◌, Bool, false, get_or}
use Rattle.std.proofs.lemmas.Iterator.{YieldsList-from_slice}
use Rattle.std.proofs.lemmas.Iterator.Search.{all_from_yields_List}
use Rattle.common.proofs.Searches.{all_is_all}
use Rattle.voter.specs.Counts.{count_rules}
use Rattle.voter.specs.declared.Voter.{Voter}
use Rattle.image.proofs.rules.all_keep.Goals as goal

pub returns : goal.returns
returns c =
    let test : Voter → Bool = λ v. get_or (count_rules v) c.args.k false in
    all_from_yields_List test _ _ c.all.result c.all.ensures.ran (YieldsList-from_slice c.args.voters cc) (λ x b q k. search (rules, tests))
    ∙ sym (all_is_all test c.args.voters)
