-- A sensor's odd channel and count (requests K5 and K6): every vote keeps to ranges and rules, and where the valid channels agree no count is left.
-- Assumes nothing.
use Prim.Native.Nat.{ℕ, ◌≤◌, zero-le}
use native.Mathlib.Omega.{arith}
use mathlib.Core.Bool.{Bool, true, false, not, beq}
use mathlib.Core.Path.{◌≡◌, refl, sym, ap, subst, subst⁻¹, ◌∙◌}
use lib.Dec.{T, eqb, eqb→eq, lit≤}
use borrow.Author.Tests.{eq-eqb}
use Rattle.voter.specs.Voting.{uncounted, fresh_with, odd_of, majority_of, by_odd, of_three, of_two, voted_by, voted, none_left, is_invalid, valid_channels}
use Rattle.voter.specs.Numbers.{channels_number}
use Rattle.voter.specs.Counts.{KeepsCountRules, CountKept, NoCountRunsAt}
use Rattle.voter.specs.Runs.{Reading, odd_in, majority, agree, heard}
use Rattle.voter.specs.declared.Channels.{Channels}
use Rattle.voter.specs.declared.Channels.TheVariants.{All, Without1, Without2, Without3, Nothing}
use Rattle.voter.specs.declared.Voter.{Voter}
use Rattle.voter.proofs.Outcomes.{OfThree, of_three_lem, OfTwo, of_two_lem}
use Rattle.voter.proofs.Outcomes.OfThree.{agreed, suspected, struck}
use Rattle.voter.proofs.Outcomes.OfTwo.{together, doubted, lost}
use Rattle.voter.proofs.Odd.{odd_to_3, at_least_one}

-- ---- Where no count runs

uncounted_is_kept : (channels : Channels) (held : Bool) → CountKept (uncounted channels held)
uncounted_is_kept channels held =
    record {
      in_range = record { odd = zero-le; count = zero-le };
      rules =
          record {
            all_valid = λ all. (λ e. refl, λ e. refl);
            one_struck = λ left. refl;
            invalid = λ none. (refl, refl);
          };
    }

-- Where none runs the rules are kept, whichever channels are valid.
pub none_keeps : (v : Voter) → NoCountRunsAt v → KeepsCountRules v
none_keeps v none =
    record {
      all_valid = λ all. (λ e. none.count, λ e. none.odd);
      one_struck = λ left. none.odd;
      invalid = λ invalid. (none.odd, none.count);
    }

pub fresh_is_kept : (held : Bool) → CountKept (fresh_with held)
unfolding fresh_with
fresh_is_kept held = uncounted_is_kept All held

-- ---- Every vote keeps to it.

kept_of_three : (v : Voter) (r : Reading) (w : Voter) → OfThree v (odd_of r.0 r.1 r.2) (majority_of r.0 r.1 r.2) w → CountKept w
unfolding is_invalid valid_channels
kept_of_three v r w (agreed quiet) = uncounted_is_kept All _
kept_of_three v r w (suspected low few) =
    record {
      in_range = record { odd = odd_to_3 r; count = omega (arith, few) };
      rules =
          record {
            all_valid = λ all. (λ e. absurd (omega (arith, low, e)), λ e. absurd (omega (arith, at_least_one v (odd_of r.0 r.1 r.2), e)));
            one_struck = λ left. absurd left;
            invalid = λ none. absurd none;
          };
    }
kept_of_three v r w (struck low many) = uncounted_is_kept _ _

-- With one channel struck.
kept_of_two : (v : Voter) → (v.channels ≡ All → ⊥) → (none_left v.channels ≡ false) → (apart : Bool) (w : Voter) → OfTwo v apart w → CountKept w
unfolding is_invalid
kept_of_two v some left apart w (together value same) = uncounted_is_kept v.channels value
kept_of_two v some left apart w (doubted differ few) =
    record {
      in_range = record { odd = zero-le; count = omega (arith, few) };
      rules =
          record {
            all_valid = λ all. absurd (some all);
            one_struck = λ two. refl;
            invalid = λ none. absurd (subst T left none);
          };
    }
kept_of_two v some left apart w (lost differ many) = uncounted_is_kept Nothing _

struck_has_some : (v : Voter) (ch : Channels) → 1 ≤ channels_number ch → v.channels ≡ ch → v.channels ≡ All → ⊥
struck_has_some v ch low e all = omega (arith, low, ap channels_number (sym e ∙ all))

pub voted_is_kept : (v : Voter) (a b c : Bool) → CountKept v → CountKept (voted v a b c)
unfolding voted voted_by of_three
voted_is_kept v a b c before = by v.channels refl
  where
    by : (ch : Channels) → v.channels ≡ ch → CountKept (voted_by ch v a b c)
    by All e = kept_of_three v (a, b, c) _ (of_three_lem v (odd_of a b c) (majority_of a b c))
    by Without1 e = kept_of_two v (struck_has_some v Without1 (lit≤ tt) e) (ap none_left e) _ _ (of_two_lem v b c)
    by Without2 e = kept_of_two v (struck_has_some v Without2 (lit≤ tt) e) (ap none_left e) _ _ (of_two_lem v a c)
    by Without3 e = kept_of_two v (struck_has_some v Without3 (lit≤ tt) e) (ap none_left e) _ _ (of_two_lem v a b)
    by Nothing e = before

-- So with count 0 there is no odd channel.
pub no_odd_at_0 : (v : Voter) → KeepsCountRules v → v.count ≡ 0 → NoCountRunsAt v
unfolding is_invalid valid_channels
no_odd_at_0 v kept none = by v.channels refl
  where
    left : (ch : Channels) → v.channels ≡ ch → T (eqb (valid_channels ch) 2) → NoCountRunsAt v
    left ch e two = record { odd = kept.one_struck (subst⁻¹ (λ (c : Channels). T (eqb (valid_channels c) 2)) e two); count = none }

    by : (ch : Channels) → v.channels ≡ ch → NoCountRunsAt v
    by All e = record { odd = (kept.all_valid e).1 none; count = none }
    by Without1 e = left Without1 e tt
    by Without2 e = left Without2 e tt
    by Without3 e = left Without3 e tt
    by Nothing e = record { odd = (kept.invalid (subst⁻¹ T (ap none_left e) tt)).0; count = none }

-- ---- Where the valid channels agree no count is left.

uncounted_has_none : (channels : Channels) (held : Bool) → NoCountRunsAt (uncounted channels held)
uncounted_has_none channels held = record { odd = refl; count = refl }

agreed_of_three : (v : Voter) (odd : ℕ) (value : Bool) (w : Voter) → odd ≡ 0 → OfThree v odd value w → NoCountRunsAt w
agreed_of_three v odd value w quiet (agreed e) = uncounted_has_none All value
agreed_of_three v odd value w quiet (suspected low few) = absurd (omega (arith, low))
agreed_of_three v odd value w quiet (struck low many) = absurd (omega (arith, low))

agreed_of_two : (v : Voter) (same : Bool) (w : Voter) → T same → OfTwo v (not same) w → NoCountRunsAt w
agreed_of_two v true w is (together value e) = uncounted_has_none v.channels value
agreed_of_two v true w is (doubted differ few) = absurd (subst T (sym differ) tt)
agreed_of_two v true w is (lost differ many) = absurd (subst T (sym differ) tt)
agreed_of_two v false w is outcome = absurd is

pub agreement_leaves_none : (v : Voter) → CountKept v → (r : Reading) → T (agree v.channels r) → NoCountRunsAt (heard v r)
unfolding voted voted_by of_three is_invalid
agreement_leaves_none v kept r same = by v.channels refl same
  where
    by : (ch : Channels) → v.channels ≡ ch → T (agree ch r) → NoCountRunsAt (voted_by ch v r.0 r.1 r.2)
    by All e same = agreed_of_three v (odd_in r) (majority r) (by_odd v (odd_in r) (majority r)) (eqb→eq (odd_in r) 0 same) (of_three_lem v (odd_in r) (majority r))
    by Without1 e same = agreed_of_two v (beq r.1 r.2) (of_two v r.1 r.2) same (of_two_lem v r.1 r.2)
    by Without2 e same = agreed_of_two v (beq r.0 r.2) (of_two v r.0 r.2) same (of_two_lem v r.0 r.2)
    by Without3 e same = agreed_of_two v (beq r.0 r.1) (of_two v r.0 r.1) same (of_two_lem v r.0 r.1)
    by Nothing e same = let none = kept.rules.invalid (subst⁻¹ T (ap none_left e) tt) in record { odd = none.0; count = none.1 }

-- As they do where all three say the same.
all_the_same : (a b c : Bool) → odd_of a b c ≡ 0 → T (beq a b) × T (beq b c) × T (beq a c)
unfolding odd_of
all_the_same true true true e = (tt, tt, tt)
all_the_same true true false e = absurd (omega arith)
all_the_same true false true e = absurd (omega arith)
all_the_same true false false e = absurd (omega arith)
all_the_same false true true e = absurd (omega arith)
all_the_same false true false e = absurd (omega arith)
all_the_same false false true e = absurd (omega arith)
all_the_same false false false e = (tt, tt, tt)

pub no_odd_agrees : (channels : Channels) (r : Reading) → odd_in r ≡ 0 → T (agree channels r)
no_odd_agrees All r e = subst⁻¹ T (eq-eqb (odd_in r) 0 e) tt
no_odd_agrees Without1 r e = (all_the_same r.0 r.1 r.2 e).1
no_odd_agrees Without2 r e = (all_the_same r.0 r.1 r.2 e).2
no_odd_agrees Without3 r e = (all_the_same r.0 r.1 r.2 e).0
no_odd_agrees Nothing r e = tt
