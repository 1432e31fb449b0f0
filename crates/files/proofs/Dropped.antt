-- A controller with its odd channels and counts at 0: its sensors have the same values and are invalid or not as they were, and it is that
-- controller where no count runs.
-- Assumes nothing.
use mathlib.Core.Bool.{Bool, false}
use mathlib.Core.List.{List, [], ◌∷◌, map}
use mathlib.Core.Path.{◌≡◌, refl, ap₂}
use Rattle.common.specs.Lists.{some, Each}
use Rattle.common.proofs.Each.{each_by_index}
use Rattle.voter.specs.declared.Voter.{Voter}
use Rattle.voter.specs.Voting.{fresh_with, value_of, is_invalid}
use Rattle.voter.specs.Counts.{NoCountRunsAt}
use Rattle.controller.specs.declared.State.{State}
use Rattle.laws.specs.Bounces.{NoCountRuns}
use Rattle.files.specs.Brushed.{count_dropped, counts_dropped}

-- ---- A sensor

pub dropped_has_the_value : (v : Voter) → value_of (count_dropped v) ≡ value_of v
unfolding value_of
dropped_has_the_value v = refl

dropped_is_invalid_too : (v : Voter) → is_invalid (count_dropped v) ≡ is_invalid v
unfolding is_invalid
dropped_is_invalid_too v = refl

-- Of a fresh one nothing is lost.
pub fresh_loses_nothing : (held : Bool) → count_dropped (fresh_with held) ≡ fresh_with held
unfolding fresh_with value_of
fresh_loses_nothing held = refl

no_count_no_loss : (v : Voter) → NoCountRunsAt v → count_dropped v ≡ v
unfolding value_of
no_count_no_loss v none = rw (none.odd, none.count)

-- ---- All of them

pub invalid_too : (vs : List Voter) → some is_invalid (map count_dropped vs) ≡ some is_invalid vs
unfolding some
invalid_too [] = refl
invalid_too (v ∷ vs) = rw (dropped_is_invalid_too v, invalid_too vs)

none_lost : (vs : List Voter) → Each NoCountRunsAt vs → map count_dropped vs ≡ vs
none_lost [] none = refl
none_lost (v ∷ vs) none = ap₂ (λ (w : Voter) (ws : List Voter). w ∷ ws) (no_count_no_loss v none.0) (none_lost vs none.1)

pub no_count_no_loss_of_all : (s : State) → NoCountRuns s → counts_dropped s ≡ s
unfolding counts_dropped
no_count_no_loss_of_all s none = rw (none_lost s.voters (each_by_index NoCountRunsAt (fresh_with false) s.voters none))
