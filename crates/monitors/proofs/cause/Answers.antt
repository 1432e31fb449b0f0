-- `monitors::cause` meets its contract: the first test that holds is the lowest number.
-- Assumes nothing.
use Rattle.std.proofs.Common.{rules, tests, arith}
use Rattle.std.proofs.lemmas.Iterator.{IsFirst-from_position, YieldsList-from_slice}
use Rattle.std.proofs.option.Match.{if_some, if_none}
use Rattle.monitors.specs.Causes.{cause_of}
use Rattle.monitors.proofs.First.{Yes, No, lowest_from_first}
use Rattle.monitors.proofs.cause.Goals as goal

pub returns-in-Some : goal.returns-in-Some
unfolding cause_of
returns-in-Some c =
    let first = IsFirst-from_position _ _ _ Yes No c.position.ensures.ran (YieldsList-from_slice _ c.iter.ensures.rest) (λ x q k. search (rules, tests)) (λ x q k. search (rules, tests)) in
    let lowest = if_some _ _ _ c.in-Some.is (lowest_from_first 1 _ _ first) in
    rw (← c.causes.ensures) (omega (arith, lowest))

pub returns-in-None : goal.returns-in-None
unfolding cause_of
returns-in-None c =
    let first = IsFirst-from_position _ _ _ Yes No c.position.ensures.ran (YieldsList-from_slice _ c.iter.ensures.rest) (λ x q k. search (rules, tests)) (λ x q k. search (rules, tests)) in
    let lowest = if_none _ _ c.in-None.is (lowest_from_first 1 _ _ first) in
    rw (← c.causes.ensures) (omega (arith, lowest))
