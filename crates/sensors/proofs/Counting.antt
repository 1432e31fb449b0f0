-- The tests of odd channel and count say what the rules of request K6 say, both ways.
-- Assumes nothing.
use Prim.Native.Nat.{ℕ}
use mathlib.Core.Bool.{Bool, true, false, ◌&&◌, beq}
use mathlib.Core.Logic.{◌↔◌}
use mathlib.Core.Path.{◌≡◌, refl, subst, subst⁻¹}
use lib.Dec.{T, eqb, eqb→eq}
use borrow.Author.Tests.{eq-eqb}
use mir.Facts.{and_yes, yes_and}
use Rattle.common.proofs.Tests.{same, then, so}
use Rattle.voter.specs.declared.Channels.{Channels}
use Rattle.voter.specs.declared.Channels.TheVariants.{All, Without1, Without2, Without3, Nothing}
use Rattle.voter.specs.declared.Voter.{Voter}
use Rattle.voter.specs.Voting.{is_invalid, valid_channels}
use Rattle.voter.specs.Counts.{has_all, has_two, no_odd, no_count, odd_with_count, no_odd_of_two, none_of_invalid, KeepsCountRules}

is_0 : (n : ℕ) → n ≡ 0 → T (eqb n 0)
is_0 n e = subst⁻¹ T (eq-eqb n 0 e) tt

both_ways : (a b : Bool) → (T a → T b) → (T b → T a) → T (beq a b)
both_ways true true to from = tt
both_ways true false to from = to tt
both_ways false true to from = from tt
both_ways false false to from = tt

all_has_three : (channels : Channels) → channels ≡ All → T (eqb (valid_channels channels) 3)
unfolding valid_channels
all_has_three channels e = subst⁻¹ (λ (c : Channels). T (eqb (valid_channels c) 3)) e tt

three_is_all : (channels : Channels) → T (eqb (valid_channels channels) 3) → channels ≡ All
unfolding valid_channels
three_is_all All h = refl
three_is_all Without1 h = absurd h
three_is_all Without2 h = absurd h
three_is_all Without3 h = absurd h
three_is_all Nothing h = absurd h

module _ (v : Voter) where
  -- Where the three tests hold the rules are kept ..
  pub tests_keep_counts : T (odd_with_count v) → T (no_odd_of_two v) → T (none_of_invalid v) → KeepsCountRules v
  unfolding odd_with_count no_odd_of_two none_of_invalid
  tests_keep_counts with_all with_two with_none =
      record {
        all_valid = λ all. (
          λ e. eqb→eq v.count 0 (subst T (alike all) (is_0 v.odd e)),
          λ e. eqb→eq v.odd 0 (subst⁻¹ T (alike all) (is_0 v.count e)),
        );
        one_struck = λ two. eqb→eq v.odd 0 (then (has_two v) (no_odd v) with_two two);
        invalid = λ none. let parts = and_yes (no_odd v) (no_count v) (then (is_invalid v) (no_odd v && no_count v) with_none none) in
            (eqb→eq v.odd 0 parts.0, eqb→eq v.count 0 parts.1);
      }
    where
      alike : v.channels ≡ All → no_odd v ≡ no_count v
      alike all = same (no_odd v) (no_count v) (then (has_all v) (beq (no_odd v) (no_count v)) with_all (all_has_three v.channels all))

  -- .. and where they are kept the tests hold.
  pub keeps_odd_with_count : KeepsCountRules v → T (odd_with_count v)
  unfolding odd_with_count
  keeps_odd_with_count keeps = so (has_all v) _ (λ three. as_test (keeps.all_valid (three_is_all v.channels three)))
    where
      as_test : (v.odd ≡ 0) ↔ (v.count ≡ 0) → T (beq (no_odd v) (no_count v))
      as_test each =
          both_ways (no_odd v) (no_count v)
          (λ t. is_0 v.count (each.0 (eqb→eq v.odd 0 t))) (λ t. is_0 v.odd (each.1 (eqb→eq v.count 0 t)))

  pub keeps_no_odd_of_two : KeepsCountRules v → T (no_odd_of_two v)
  unfolding no_odd_of_two
  keeps_no_odd_of_two keeps = so (has_two v) _ (λ two. is_0 v.odd (keeps.one_struck two))

  pub keeps_none_of_invalid : KeepsCountRules v → T (none_of_invalid v)
  unfolding none_of_invalid
  keeps_none_of_invalid keeps =
      so (is_invalid v) _
      (λ none. let parts = keeps.invalid none in yes_and (no_odd v) (no_count v) (is_0 v.odd parts.0) (is_0 v.count parts.1))
