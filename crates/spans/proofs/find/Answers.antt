-- What is sought is the first byte that passes the test of being it: at its place in the part, or nowhere.
use Rattle.std.proofs.Common.{◌+◌, sym, ◌∙◌, ap, eqb, arith, rules, tests}
use Rattle.std.proofs.lemmas.Iterator.{YieldsList-from_slice}
use Rattle.std.proofs.lemmas.Iterator.Search.{position_from_yields_List}
use Rattle.spans.specs.Bytes.{slice}
use Rattle.spans.proofs.Laws.{Place, is_slice, length_slice, found_at, found_nowhere}
use Rattle.spans.proofs.find.Goals as goal
use Rattle.spans.proofs.find.Goals.{After-position}

found : (c : After-position) → Place c.args.byte (slice c.args.from c.args.to c.args.s.now) c.position.result
found c =
    rw (is_slice c.args.from c.args.to c.args.s.now c.requires.ends)
    (position_from_yields_List (λ b. eqb b c.args.byte) _ _ c.position.result c.position.ensures.ran (YieldsList-from_slice _ c.iter.ensures.rest) (λ x b q k. search (rules, tests)))

pub returns-in-Some-clause-place : goal.returns-in-Some-clause-place
returns-in-Some-clause-place c =
    ap (λ i. c.args.from + i) (found_at c.args.byte c.in-Some.i _ (sym c.in-Some.is ∙ found (goal.at.returns-in-Some-clause-place c).After-position))

pub returns-in-None-clause-place : goal.returns-in-None-clause-place
returns-in-None-clause-place c =
    let nowhere = found_nowhere c.args.byte _ (sym c.in-None.is ∙ found (goal.at.returns-in-None-clause-place c).After-position) in
    omega (arith, nowhere, length_slice c.args.from c.args.to c.args.s.now c.requires.within)
