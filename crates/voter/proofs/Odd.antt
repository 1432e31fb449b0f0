-- Who is odd of three (request K5); a vote with all channels valid, by what it comes to; and the same channel in three of them.
-- Assumes nothing.
use Prim.Native.Nat.{ℕ, ◌+◌, ◌≤◌}
use native.Mathlib.Omega.{arith}
use mathlib.Core.Bool.{Bool, true, false, cond, not, beq}
use mathlib.Core.Path.{◌≡◌, ◌∙◌, refl, sym, ap, subst, subst⁻¹}
use lib.Dec.{T, eqb, eqb_refl, lit≤}
use borrow.Author.Tests.{eq-eqb, ne_eqb}
use Rattle.voter.specs.Voting.{third, odd_of, majority_of, odd_in_a_row, by_odd, of_three, voted_by, voted}
use Rattle.voter.specs.Numbers.{channels_number, channels_at}
use Rattle.voter.specs.Runs.{Reading, odd_in, is_odd, majority, heard}
use Rattle.voter.specs.declared.Channels.{Channels}
use Rattle.voter.specs.declared.Channels.TheVariants.{All}
use Rattle.voter.specs.declared.Voter.{Voter}
use Rattle.voter.proofs.Numbering.{number_at}
use Rattle.voter.proofs.Outcomes.{OfThree, of_three_lem}
use Rattle.voter.proofs.Outcomes.OfThree.{agreed, suspected, struck}
use Rattle.voter.proofs.Laws.{all_were_valid}

-- ---- Who is odd

-- One of 1 to 3, or 0: the one that says otherwise than the majority.
pub who_is_odd :
    (r : Reading) →
    (odd_in r ≤ 3) ×
    (is_odd 1 r ≡ not (beq r.0 (majority r))) ×
    (is_odd 2 r ≡ not (beq r.1 (majority r))) ×
    (is_odd 3 r ≡ not (beq r.2 (majority r)))
unfolding odd_of majority_of
who_is_odd (true, true, true) = (lit≤ tt, refl, refl, refl)
who_is_odd (true, true, false) = (lit≤ tt, refl, refl, refl)
who_is_odd (true, false, true) = (lit≤ tt, refl, refl, refl)
who_is_odd (true, false, false) = (lit≤ tt, refl, refl, refl)
who_is_odd (false, true, true) = (lit≤ tt, refl, refl, refl)
who_is_odd (false, true, false) = (lit≤ tt, refl, refl, refl)
who_is_odd (false, false, true) = (lit≤ tt, refl, refl, refl)
who_is_odd (false, false, false) = (lit≤ tt, refl, refl, refl)

pub odd_to_3 : (r : Reading) → odd_in r ≤ 3
odd_to_3 r = (who_is_odd r).0

-- ---- A vote with all channels valid

by_odd_lem : (v : Voter) → v.channels ≡ All → (r : Reading) → heard v r ≡ by_odd v (odd_in r) (majority r)
unfolding voted voted_by of_three
by_odd_lem v all r = subst⁻¹ (λ (ch : Channels). voted_by ch v r.0 r.1 r.2 ≡ by_odd v (odd_in r) (majority r)) all refl

-- What it comes to.
abbrev pub Comes : Voter → Reading → Voter → Type 0
Comes v r = OfThree v (odd_in r) (majority r)

pub comes : (v : Voter) → v.channels ≡ All → (r : Reading) → Comes v r (heard v r)
comes v all r = subst⁻¹ (Comes v r) (by_odd_lem v all r) (of_three_lem v (odd_in r) (majority r))

-- ---- So many in a row

-- The next one in a row is the first.
pub first_in_a_row : (v : Voter) → v.count ≡ 0 → (odd : ℕ) → odd_in_a_row v odd ≡ 1
first_in_a_row v none odd = by (eqb v.odd odd)
  where
    by : (same : Bool) → cond same (v.count + 1) 1 ≡ 1
    by true = rw none
    by false = refl

-- One more than were counted, or the first.
pub at_most_one_more : (v : Voter) (odd : ℕ) → odd_in_a_row v odd ≤ v.count + 1
at_most_one_more v odd = by (eqb v.odd odd)
  where
    by : (same : Bool) → cond same (v.count + 1) 1 ≤ v.count + 1
    by true = omega arith
    by false = omega arith

-- A reading that has a channel as the odd one.
pub is_odd_lem : (k : ℕ) (r : Reading) → odd_in r ≡ k → T (is_odd k r)
is_odd_lem k r e = subst (λ (n : ℕ). T (eqb (odd_in r) n)) e (eqb_refl (odd_in r))

-- In a row where the channel is the same, else the first.
pub same_in_a_row : (v : Voter) (odd : ℕ) → v.odd ≡ odd → odd_in_a_row v odd ≡ v.count + 1
same_in_a_row v odd e = rw (eq-eqb v.odd odd e)

pub other_in_a_row : (v : Voter) (odd : ℕ) → (v.odd ≡ odd → ⊥) → odd_in_a_row v odd ≡ 1
other_in_a_row v odd e = rw (ne_eqb v.odd odd e)

-- A struck channel has a number, so not all are valid.
pub struck_is_not_all : (k : ℕ) → k ≤ 3 → 1 ≤ k → channels_at k ≡ All → ⊥
struck_is_not_all k high low e = omega (arith, sym (number_at k (omega arith)) ∙ ap channels_number e)

-- ---- The same channel once more

pub at_least_one : (v : Voter) (odd : ℕ) → 1 ≤ odd_in_a_row v odd
at_least_one v odd = by (eqb v.odd odd)
  where
    by : (same : Bool) → 1 ≤ cond same (v.count + 1) 1
    by true = omega arith
    by false = lit≤ tt

module _ (k : ℕ) (channel : 1 ≤ k) where
  -- The odd one, and all stay valid: it is counted.
  counted : (w : Voter) → w.channels ≡ All → (r : Reading) → odd_in r ≡ k → (heard w r).channels ≡ All → ((heard w r).odd ≡ k) × ((heard w r).count ≡ odd_in_a_row w k)
  counted w all r odd valid = by (heard w r) (comes w all r) valid
    where
      by : (u : Voter) → Comes w r u → u.channels ≡ All → (u.odd ≡ k) × (u.count ≡ odd_in_a_row w k)
      by u (agreed quiet) valid = absurd (omega arith)
      by u (suspected low few) valid = (odd, ap (odd_in_a_row w) odd)
      by u (struck low many) valid = absurd (struck_is_not_all (odd_in r) (odd_to_3 r) low valid)

  -- The odd one for the third time: it is struck.
  strikes : (w : Voter) → w.channels ≡ All → (r : Reading) → odd_in r ≡ k → third ≤ odd_in_a_row w k → (heard w r).channels ≡ channels_at k
  strikes w all r odd many = by (heard w r) (comes w all r)
    where
      by : (u : Voter) → Comes w r u → u.channels ≡ channels_at k
      by u (agreed quiet) = absurd (omega arith)
      by u (suspected low few) = absurd (omega (arith, ap (odd_in_a_row w) odd))
      by u (struck low over) = ap channels_at odd

  pub strikes_at_the_third :
      (w : Voter) (a b c : Reading) →
      odd_in a ≡ k → odd_in b ≡ k → odd_in c ≡ k →
      (heard (heard w a) b).channels ≡ All →
      (heard (heard (heard w a) b) c).channels ≡ channels_at k
  strikes_at_the_third w a b c first second third valid =
      let all_once : (heard w a).channels ≡ All = all_were_valid (heard w a) b.0 b.1 b.2 valid in
      let once = counted w (all_were_valid w a.0 a.1 a.2 all_once) a first all_once in
      let twice = counted (heard w a) all_once b second valid in
      strikes (heard (heard w a) b) valid c third
      (omega (
        arith,
        at_least_one w k,
        once.1,
        same_in_a_row (heard w a) k once.0,
        twice.1,
        same_in_a_row (heard (heard w a) b) k twice.0,
      ))
