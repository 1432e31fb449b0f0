-- Laws of the vote, for the layers above: they cite these names and never open the rule.
-- Assumes nothing.
use Prim.Native.Nat.{ℕ, ◌≤◌, zero-le}
use native.Mathlib.Nat.{le_refl}
use native.Mathlib.Omega.{arith}
use mathlib.Core.Bool.{Bool, true, false, not, beq}
use mathlib.Core.Path.{◌≡◌, ◌∙◌, refl, ap, ap₂, subst⁻¹}
use lib.Dec.{T, eqb, lit≤}
use borrow.Author.Tests.{eqb-true, eqb-false}
use Rattle.voter.specs.Voting.{odd_of, majority_of, by_odd, of_three, of_two, voted_by, voted, fresh_with, value_of, none_left, is_invalid, valid_channels, AgreeWhereCounted}
use Rattle.voter.specs.Numbers.{channels_number, number_of}
use Rattle.voter.specs.Runs.{Quiet}
use Rattle.voter.specs.declared.Channels.{Channels}
use Rattle.voter.specs.declared.Channels.TheVariants.{All, Without1, Without2, Without3, Nothing}
use Rattle.voter.specs.declared.Voter.{Voter}
use Rattle.voter.proofs.Numbering.{all_has_0, all_by_number}
use Rattle.voter.proofs.Outcomes.{OfThree, of_three_lem, OfTwo, of_two_lem}
use Rattle.voter.proofs.Outcomes.OfThree.{agreed, suspected, struck}
use Rattle.voter.proofs.Outcomes.OfTwo.{together, doubted, lost}

-- ---- The number of valid channels never grows.

at_most_three : (ch : Channels) → valid_channels ch ≤ 3
unfolding valid_channels
at_most_three All = lit≤ tt
at_most_three Without1 = lit≤ tt
at_most_three Without2 = lit≤ tt
at_most_three Without3 = lit≤ tt
at_most_three Nothing = lit≤ tt

three_at_most : (v : Voter) (a b c : Bool) → valid_channels (of_three v a b c).channels ≤ valid_channels All
unfolding valid_channels
three_at_most v a b c = at_most_three (of_three v a b c).channels

-- After a vote of two: the channels that counted, or none.
two_or_none : (P : Channels → Type 0) (v : Voter) (a b : Bool) → P v.channels → P Nothing → P (of_two v a b).channels
two_or_none P v a b same none = by (of_two v a b) (of_two_lem v a b)
  where
    by : (w : Voter) → OfTwo v (not (beq a b)) w → P w.channels
    by w (together value same_value) = same
    by w (doubted apart few) = same
    by w (lost apart many) = none

two_at_most : (v : Voter) (a b : Bool) → valid_channels (of_two v a b).channels ≤ valid_channels v.channels
unfolding valid_channels
two_at_most v a b = two_or_none (λ (ch : Channels). valid_channels ch ≤ valid_channels v.channels) v a b (le_refl _) zero-le

-- After any vote of a sensor with a channel struck: the channels that counted, or none.
pub same_or_none : (P : Channels → Type 0) (v : Voter) → (v.channels ≡ All → ⊥) → (a b c : Bool) → P v.channels → P Nothing → P (voted v a b c).channels
unfolding voted voted_by
same_or_none P v some a b c same none = by v.channels refl
  where
    by : (ch : Channels) → v.channels ≡ ch → P (voted_by ch v a b c).channels
    by All e = absurd (some e)
    by Without1 e = two_or_none P v b c same none
    by Without2 e = two_or_none P v a c same none
    by Without3 e = two_or_none P v a b same none
    by Nothing e = same

pub none_is_not_all : Nothing ≡ All → ⊥
none_is_not_all e = omega (arith, ap channels_number e)

-- Where all are valid after a vote they were before it.
pub all_were_valid : (v : Voter) (a b c : Bool) → (voted v a b c).channels ≡ All → v.channels ≡ All
all_were_valid v a b c all = by (eqb (number_of v) 0) refl
  where
    by : (zero : Bool) → eqb (number_of v) 0 ≡ zero → v.channels ≡ All
    by true e = all_by_number v (eqb-true (number_of v) 0 e)
    by false e =
        let some : v.channels ≡ All → ⊥ = λ is. eqb-false (number_of v) 0 e (all_has_0 v is) in
        absurd (same_or_none (λ (ch : Channels). ch ≡ All → ⊥) v some a b c some none_is_not_all all)

fewer : (ch : Channels) (v : Voter) → v.channels ≡ ch → (a b c : Bool) → valid_channels (voted_by ch v a b c).channels ≤ valid_channels v.channels
unfolding voted_by
fewer All v e a b c = subst⁻¹ (λ (ch : Channels). valid_channels (of_three v a b c).channels ≤ valid_channels ch) e (three_at_most v a b c)
fewer Without1 v e a b c = two_at_most v b c
fewer Without2 v e a b c = two_at_most v a c
fewer Without3 v e a b c = two_at_most v a b
fewer Nothing v e a b c = le_refl _

pub never_grows : (v : Voter) (a b c : Bool) → valid_channels (voted v a b c).channels ≤ valid_channels v.channels
unfolding voted
never_grows v a b c = fewer v.channels v refl a b c

-- ---- A channel that does not count is not heard, and never counts again.

unheard : (ch : Channels) (v : Voter) (a b c a' b' c' : Bool) → AgreeWhereCounted ch a b c a' b' c' → voted_by ch v a b c ≡ voted_by ch v a' b' c'
unfolding voted_by AgreeWhereCounted
unheard All v a b c a' b' c' h = simp (h.0, h.1, h.2)
unheard Without1 v a b c a' b' c' h = ap₂ (of_two v) h.0 h.1
unheard Without2 v a b c a' b' c' h = ap₂ (of_two v) h.0 h.1
unheard Without3 v a b c a' b' c' h = ap₂ (of_two v) h.0 h.1
unheard Nothing v a b c a' b' c' h = refl

-- Two readings that agree in each channel that counts give the same sensor: its value, and what counts from then on.
pub struck_is_unheard : (v : Voter) (a b c a' b' c' : Bool) → AgreeWhereCounted v.channels a b c a' b' c' → voted v a b c ≡ voted v a' b' c'
unfolding voted
struck_is_unheard v a b c a' b' c' h = unheard v.channels v a b c a' b' c' h

stays_struck : (v : Voter) (x y : Bool) (a b c a' b' c' : Bool) → AgreeWhereCounted v.channels a b c a' b' c' → AgreeWhereCounted (of_two v x y).channels a b c a' b' c'
unfolding AgreeWhereCounted
stays_struck v x y a b c a' b' c' h = two_or_none (λ (ch : Channels). AgreeWhereCounted ch a b c a' b' c') v x y h tt

all_agree : (ch : Channels) (a b c a' b' c' : Bool) → AgreeWhereCounted All a b c a' b' c' → AgreeWhereCounted ch a b c a' b' c'
unfolding AgreeWhereCounted
all_agree All a b c a' b' c' h = h
all_agree Without1 a b c a' b' c' h = (h.1, h.2)
all_agree Without2 a b c a' b' c' h = (h.0, h.2)
all_agree Without3 a b c a' b' c' h = (h.0, h.1)
all_agree Nothing a b c a' b' c' h = tt

still_struck : (ch : Channels) (v : Voter) → v.channels ≡ ch → (x y z a b c a' b' c' : Bool) → AgreeWhereCounted v.channels a b c a' b' c' → AgreeWhereCounted (voted_by ch v x y z).channels a b c a' b' c'
unfolding voted_by
still_struck All v e x y z a b c a' b' c' h = all_agree (of_three v x y z).channels a b c a' b' c' (rw e at h)
still_struck Without1 v e x y z a b c a' b' c' h = stays_struck v y z a b c a' b' c' h
still_struck Without2 v e x y z a b c a' b' c' h = stays_struck v x z a b c a' b' c' h
still_struck Without3 v e x y z a b c a' b' c' h = stays_struck v x y a b c a' b' c' h
still_struck Nothing v e x y z a b c a' b' c' h = h

-- What does not count now never counts again: readings that agree where a sensor counts agree where it counts after any vote.
pub struck_for_ever : (v : Voter) (x y z a b c a' b' c' : Bool) → AgreeWhereCounted v.channels a b c a' b' c' → AgreeWhereCounted (voted v x y z).channels a b c a' b' c'
unfolding voted
struck_for_ever v x y z a b c a' b' c' h = still_struck v.channels v refl x y z a b c a' b' c' h

-- ---- An invalid sensor stays as it is, with its value.

invalid_kept : (ch : Channels) (v : Voter) (a b c : Bool) → T (none_left ch) → voted_by ch v a b c ≡ v
unfolding voted_by
invalid_kept All v a b c h = absurd h
invalid_kept Without1 v a b c h = absurd h
invalid_kept Without2 v a b c h = absurd h
invalid_kept Without3 v a b c h = absurd h
invalid_kept Nothing v a b c h = refl

pub invalid_for_ever : (v : Voter) (a b c : Bool) → T (is_invalid v) → voted v a b c ≡ v
unfolding voted is_invalid
invalid_for_ever v a b c h = invalid_kept v.channels v a b c h

-- With all channels valid a sensor is not invalid.
pub all_is_valid : (v : Voter) → v.channels ≡ All → is_invalid v ≡ false
unfolding is_invalid
all_is_valid v all = ap none_left all

-- ---- With two of three valid channels telling the truth the vote is the truth.

-- Three valid channels: the value is the majority's, at a strike too.
by_odd_value : (v : Voter) (odd : ℕ) (value : Bool) → (by_odd v odd value).held ≡ value
by_odd_value v odd value = by (by_odd v odd value) (of_three_lem v odd value)
  where
    by : (w : Voter) → OfThree v odd value w → w.held ≡ value
    by w (agreed quiet) = refl
    by w (suspected low few) = refl
    by w (struck low many) = refl

pub value_is_of_the_majority : (v : Voter) → v.channels ≡ All → (one two three : Bool) → value_of (voted v one two three) ≡ majority_of one two three
unfolding voted voted_by of_three value_of
value_is_of_the_majority v e one two three =
    subst⁻¹ (λ (ch : Channels). (voted_by ch v one two three).held ≡ majority_of one two three) e
    (by_odd_value v (odd_of one two three) (majority_of one two three))

pub majority_told : (truth other : Bool) → (majority_of truth truth other ≡ truth) × (majority_of truth other truth ≡ truth) × (majority_of other truth truth ≡ truth)
unfolding majority_of
majority_told true true = (refl, refl, refl)
majority_told true false = (refl, refl, refl)
majority_told false true = (refl, refl, refl)
majority_told false false = (refl, refl, refl)

pub two_tell_the_truth : (v : Voter) → v.channels ≡ All → (truth other : Bool) → (value_of (voted v truth truth other) ≡ truth) × (value_of (voted v truth other truth) ≡ truth) × (value_of (voted v other truth truth) ≡ truth)
two_tell_the_truth v e truth other =
    let told = majority_told truth other in (
      value_is_of_the_majority v e truth truth other ∙ told.0,
      value_is_of_the_majority v e truth other truth ∙ told.1,
      value_is_of_the_majority v e other truth truth ∙ told.2,
    )

-- A fresh sensor has all channels valid and its count at 0, ..
pub fresh_sensor_is_quiet : (held : Bool) → Quiet (fresh_with held)
unfolding fresh_with
fresh_sensor_is_quiet held = (refl, refl)

-- .. so it is not invalid.
pub fresh_is_valid : (held : Bool) → is_invalid (fresh_with held) ≡ false
unfolding is_invalid fresh_with
fresh_is_valid held = refl

-- The first vote of a fresh sensor hears the channels alone: the value held makes no difference.
pub first_vote_hears_the_channels : (held other : Bool) (one two three : Bool) → voted (fresh_with held) one two three ≡ voted (fresh_with other) one two three
unfolding voted voted_by of_three by_odd fresh_with
first_vote_hears_the_channels held other one two three = refl

-- Three valid channels that agree leave a sensor as a fresh one that holds what they say.
pub three_that_agree : (v : Voter) → v.channels ≡ All → (value : Bool) → voted v value value value ≡ fresh_with value
unfolding voted voted_by of_three by_odd odd_of majority_of fresh_with
three_that_agree v e value = subst⁻¹ (λ (ch : Channels). voted_by ch v value value value ≡ fresh_with value) e (of_three_equal value)
  where
    of_three_equal : (value : Bool) → of_three v value value value ≡ fresh_with value
    of_three_equal true = refl
    of_three_equal false = refl
