-- `joined::drives::some_bad` meets its contract: one of the given is bad, or one of the cylinders unsound.
-- Assumes nothing.
use Rattle.std.proofs.Common.{◌≡◌, rules, tests}
use Rattle.std.specs.List.{list_any}
use Rattle.std.proofs.lemmas.Iterator.{YieldsList-from_slice}
use Rattle.std.proofs.lemmas.Iterator.Search.{any_from_yields_List}
use Rattle.common.proofs.Searches.{some_is_any}
use Rattle.joined.specs.Drives.{is_bad, is_unsound, some_bad}
use borrow.Author.Rules.{rules}
use Rattle.joined.proofs.drives.some_bad.Goals as goal

pub returns-then-any : goal.returns-then-any
unfolding some_bad
returns-then-any c =
    let given : c.any.result ≡ list_any is_bad c.args.given =
    any_from_yields_List is_bad _ _ c.any.result c.any.ensures.ran (YieldsList-from_slice c.args.given cc) (λ x b q k. search (rules, tests)) in
    simp (some_is_any is_bad c.args.given, ← given, c.if-any.true)

pub returns-else-any : goal.returns-else-any
unfolding some_bad is_unsound
returns-else-any c =
    let given : c.any.result ≡ list_any is_bad c.args.given =
    any_from_yields_List is_bad _ _ c.any.result c.any.ensures.ran (YieldsList-from_slice c.args.given cc) (λ x b q k. search (rules, tests)) in
    let unsound : c.any-else-any.result ≡ list_any is_unsound c.args.cylinders =
    any_from_yields_List is_unsound _ _ c.any-else-any.result c.any-else-any.ensures.ran (YieldsList-from_slice c.args.cylinders cc) (λ x b q k. search (rules, tests)) in
    simp (some_is_any is_bad c.args.given, some_is_any is_unsound c.args.cylinders, ← given, c.if-any.false, unsound)
