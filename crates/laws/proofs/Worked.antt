-- P1 to P12 of document 01 come out as it says: the rules compute.
-- Assumes nothing.
use mathlib.Core.Path.{refl}
use Rattle.common.specs.Case.{AllAsWanted}
use Rattle.voter.specs.Numbers.{number_of}
use Rattle.voter.specs.Cases.{shown, after_readings, twice, after_p1, voter_cases}
use Rattle.voter.specs.Runs.{heard_all}
use Rattle.laws.specs.Cases.{
  switch_after,
  twice_then_refused,
  bounce_cases,
  shown_answer,
  answered_over_the_round,
  answered_after,
  nothing_seen,
  step_from,
  is_on_after,
  opens_at_general,
  starts_at_opposite,
  general_at_others,
  cause_at_open,
  cause_at_handle,
  doors_down,
  step_cases,
  all_cases,
}
use Rattle.controller.specs.Samples.{after}
use Rattle.controller.proofs.Computing.{rules}

pub p1_to_p12 : AllAsWanted all_cases
unfolding
    rules
    heard_all number_of voter_cases shown twice after_p1 after_readings
    after switch_after twice_then_refused bounce_cases
    shown_answer answered_over_the_round answered_after nothing_seen step_from is_on_after opens_at_general starts_at_opposite
    general_at_others cause_at_open cause_at_handle doors_down step_cases all_cases
p1_to_p12 = refl
