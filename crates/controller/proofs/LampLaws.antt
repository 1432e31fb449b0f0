-- What request K1 says of the lamps beside their rule: green alone before the first accepted step; green and orange follow every
-- vote, with an anomaly as without; and the table of what they show.
-- Assumes nothing.
use Rattle.std.proofs.Common.{◌≡◌, ℕ, List, refl, ap, ◌∙◌}
use Rattle.common.specs.Case.{AllAsWanted}
use Rattle.controller.specs.declared.State.{State}
use Rattle.controller.specs.Votes.{all_voted}
use Rattle.controller.specs.Start.{fresh_of}
use Rattle.controller.specs.Stages.{ages_stage, vote_stage, monitors_stage, sequence_stage, orders_stage, accepted}
use Rattle.controller.specs.Lamps.{green_of, orange_of, lights_of}
use Rattle.controller.specs.BeforeFirst.{BeforeFirst, green_only}
use Rattle.controller.specs.BeforeFirst.BeforeFirst.{fresh, refused}
use Rattle.controller.specs.LampCases.{lamps_at, lamp_cases}
use Rattle.controller.proofs.Computing.{rules}
use Rattle.controller.proofs.Refusals.{refused_stays}

fresh_shows_green : (stamp : ℕ) → lights_of (fresh_of stamp) ≡ green_only
unfolding rules
fresh_shows_green stamp = refl

-- Green 1, orange 0, red 0.
pub green_only_before_the_first_accepted_step : (s : State) → BeforeFirst s → lights_of s ≡ green_only
green_only_before_the_first_accepted_step s (fresh stamp) = fresh_shows_green stamp
green_only_before_the_first_accepted_step s (refused {s = before} waiting stamp bytes is_refused) =
    ap lights_of (refused_stays before stamp bytes is_refused) ∙ green_only_before_the_first_accepted_step before waiting

-- After an accepted step green and orange are what this step's votes say. Nothing is asked of the state before.
pub lamps_follow_the_votes : (s : State) (stamp : ℕ) (bytes : List ℕ) → ((lights_of (accepted s stamp bytes)).green ≡ green_of (all_voted bytes s.voters)) × ((lights_of (accepted s stamp bytes)).orange ≡ orange_of (all_voted bytes s.voters))
unfolding lights_of accepted ages_stage vote_stage monitors_stage sequence_stage orders_stage
lamps_follow_the_votes s stamp bytes = (refl, refl)

pub lamps_as_listed : AllAsWanted lamp_cases
unfolding rules lamps_at lamp_cases
lamps_as_listed = refl
