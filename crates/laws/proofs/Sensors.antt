-- Each sensor of a controller: at a fresh start, and after a vote.
-- Assumes nothing.
use Prim.Native.Nat.{ℕ, suc}
use mathlib.Core.Bool.{Bool, true, false}
use mathlib.Core.List.{List, [], ◌∷◌}
use Rattle.common.specs.Lists.{each_from, Each}
use Rattle.voter.specs.declared.Voter.{Voter}
use Rattle.voter.specs.Voting.{fresh_with}
use Rattle.voter.specs.Counts.{CountKept}
use Rattle.voter.proofs.Kept.{voted_is_kept}
use Rattle.controller.specs.Votes.{votes_at, all_voted}
use Rattle.controller.specs.Start.{fresh_voters, fresh_of}

-- What holds of every fresh sensor holds of each of a fresh start.
pub fresh_each : (P : Voter → Type 0) → ((held : Bool) → P (fresh_with held)) → (stamp : ℕ) → Each P (fresh_of stamp).voters
unfolding fresh_of fresh_voters
fresh_each P of_fresh stamp =
    let one : P (fresh_with true) = of_fresh true in
    let none : P (fresh_with false) = of_fresh false in
    (one, (none, (one, (one, (one, (none, (none, (none, (none, (none, (none, (one, (one, (one, (none, (none, (none, (none, tt))))))))))))))))))

voted_each : (bytes : List ℕ) (k : ℕ) (vs : List Voter) → Each CountKept vs → Each CountKept (each_from (votes_at bytes) k vs)
unfolding each_from
voted_each bytes k [] each = tt
voted_each bytes k (v ∷ vs) each = (voted_is_kept v _ _ _ each.0, voted_each bytes (suc k) vs each.1)

-- A vote keeps odd channels and counts as an image may bear them.
pub votes_keep_counts : (bytes : List ℕ) (vs : List Voter) → Each CountKept vs → Each CountKept (all_voted bytes vs)
unfolding all_voted
votes_keep_counts bytes vs = voted_each bytes 0 vs
