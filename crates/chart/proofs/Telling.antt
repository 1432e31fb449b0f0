-- Requests K4 and K7: the page tells all of the table. At each of the 1,024 entries it tells what comes next there, so facts that a place
-- does not name make no difference at it, and places of the ground that it does not show are as in the air; and a fact that it names does
-- make a difference.
-- Assumes nothing.
use Prim.Native.Nat.{ℕ, zero, suc, ◌+◌, ◌*◌, ◌/◌, ◌%◌, ◌<◌}
use native.Mathlib.Nat.{not-suc-le-zero}
use native.Mathlib.Omega.{arith}
use mathlib.Core.Bool.{Bool, true, false, cond, ◌||◌}
use mathlib.Core.Path.{◌≡◌, refl, sym, ap, subst, ◌∙◌}
use borrow.Author.Tests.{eqb-true, eqb-false, not-false}
use lib.Dec.{T, eqb}
use Rattle.common.specs.Lists.{given_from}
use Rattle.common.proofs.Given.{same_at_each}
use Rattle.table.specs.declared.Asked.{Asked}
use Rattle.sequence.specs.Moves.{at_aim, next_gears, doors_to_gears, doors_home, move_of, aim_in_force}
use Rattle.sequence.specs.Numbers.{doors_at, gears_at}
use Rattle.table.specs.Table.{entries, in_the_air, facts_at, asked_at, next_of, place_number, place_at, ruled_at, changed_by_ground}
use Rattle.table.proofs.Entries.{place_at_number}
use Rattle.std.specs.Prelude.{None, Some}
use Rattle.chart.specs.declared.differences.Fact.TheVariants.{AllOpen, AllClosed, AllExtended, AllRetracted}
use Rattle.chart.specs.Differences.{places_in_the_air, stand_at, Deciding, kept_of, is_named, decides, decisive, some_changed, differs}
use Rattle.chart.specs.Headings.{first_shown}
use Rattle.chart.specs.Telling.{told_of, told, is_up_extended, UnderItsHeadings}

-- ---- A place tells what the table tells there

abbrev told_number : ℕ → ℕ
told_number n = place_number (told_of (stand_at (n / 16)) (facts_at (n % 16)))

-- The test: all 1,024 are computed.
all_told : given_from told_number 0 entries ≡ given_from ruled_at 0 entries
unfolding given_from at_aim next_gears doors_to_gears doors_home move_of aim_in_force doors_at gears_at facts_at asked_at next_of place_number ruled_at
    kept_of decides decisive told_of
all_told = refl

place_tells : (n : ℕ) → n < entries → told_number n ≡ ruled_at n
place_tells = same_at_each told_number ruled_at 0 entries all_told

-- ---- So does the page: a place of the ground that does not differ is told by the air

neither : (a b : Bool) → (a || b) ≡ false → (a ≡ false) × (b ≡ false)
neither true b e = absurd (subst T e tt)
neither false b e = (refl, e)

last_or_before : (k m n : ℕ) → changed_by_ground (16 * k + m) ≡ false → (n < m → changed_by_ground (16 * k + n) ≡ false) → n < suc m → changed_by_ground (16 * k + n) ≡ false
last_or_before k m n last before h = by (eqb n m) refl
  where
    by : (b : Bool) → eqb n m ≡ b → changed_by_ground (16 * k + n) ≡ false
    by true e = ap (λ (i : ℕ). changed_by_ground (16 * k + i)) (eqb-true n m e) ∙ last
    by false e = before (omega (arith, h, eqb-false n m e))

-- Where none of its entries is changed, each is as in the air.
none_changed : (k m n : ℕ) → some_changed k m ≡ false → n < m → changed_by_ground (16 * k + n) ≡ false
unfolding some_changed
none_changed k zero n none h = absurd (not-suc-le-zero h)
none_changed k (suc m) n none h =
    let both = neither (some_changed k m) (changed_by_ground (16 * k + m)) none in
    last_or_before k m n both.1 (λ before. none_changed k m n both.0 before) h

same_in_the_air : (n : ℕ) → differs (n / 16) ≡ false → ruled_at (n % in_the_air) ≡ ruled_at n
unfolding differs changed_by_ground
same_in_the_air n none =
    let back : 16 * (n / 16) + n % 16 ≡ n = omega arith in
    let here : changed_by_ground n ≡ false = ap changed_by_ground (sym back) ∙ none_changed (n / 16) 16 (n % 16) none (omega arith) in
    sym (eqb-true (ruled_at n) (ruled_at (n % in_the_air)) (not-false _ here))

module _ (n : ℕ) (h : n < entries) where
  looked : (other : Bool) → differs (n / 16) ≡ other
      → place_number (told_of (stand_at (cond other (n / 16) (n / 16 % places_in_the_air))) (facts_at (n % 16))) ≡ ruled_at n
  looked true e = place_tells n h
  looked false e =
      let k : n / 16 % places_in_the_air ≡ n % in_the_air / 16 = omega arith in
      let facts : n % 16 ≡ n % in_the_air % 16 = omega arith in
      ap (λ (x : ℕ). place_number (told_of (stand_at x) (facts_at (n % 16)))) k
      ∙ ap (λ (x : ℕ). place_number (told_of (stand_at (n % in_the_air / 16)) (facts_at x))) facts
      ∙ place_tells (n % in_the_air) (omega arith)
      ∙ same_in_the_air n e

  pub page_tells : told n ≡ next_of (asked_at n)
  unfolding told ruled_at
  page_tells =
      sym (place_at_number (told n))
      ∙ ap place_at (looked (differs (n / 16)) refl)
      ∙ place_at_number (next_of (asked_at n))

-- ---- Which places of the ground are shown, and where

-- Those of handle up and gears EXTENDED, and no others.
pub shown_exactly : (k : ℕ) → k < places_in_the_air → differs (places_in_the_air + k) ≡ is_up_extended (places_in_the_air + k)
unfolding given_from at_aim next_gears doors_to_gears doors_home move_of aim_in_force doors_at gears_at facts_at asked_at next_of place_number ruled_at
    changed_by_ground some_changed differs
shown_exactly = same_at_each (λ (k : ℕ). differs (places_in_the_air + k)) (λ (k : ℕ). is_up_extended (places_in_the_air + k)) false places_in_the_air refl

-- Where it is shown, or anywhere else.
abbrev if_shown : (ℕ → ℕ) → ℕ → ℕ
if_shown number k = cond (is_up_extended (places_in_the_air + k)) (number k) 0

stands_there : (k : ℕ) → k < places_in_the_air → if_shown (λ (n : ℕ). places_in_the_air + n) k ≡ if_shown (λ (n : ℕ). first_shown + 4 * (n / 4 % 4)) k
unfolding given_from doors_at gears_at facts_at asked_at
stands_there = same_at_each (if_shown (λ (n : ℕ). places_in_the_air + n)) (if_shown (λ (n : ℕ). first_shown + 4 * (n / 4 % 4))) 0 places_in_the_air refl

-- Each stands under its headings.
pub under_its_headings : (k : ℕ) → k < places_in_the_air → T (differs (places_in_the_air + k)) → UnderItsHeadings k
under_its_headings k h shown = (by (is_up_extended (places_in_the_air + k)) (subst T (shown_exactly k h) shown) (stands_there k h), omega arith)
  where
    by : (b : Bool) → T b → cond b (places_in_the_air + k) 0 ≡ cond b (first_shown + 4 * (k / 4 % 4)) 0 → places_in_the_air + k ≡ first_shown + 4 * (k / 4 % 4)
    by true here e = e
    by false here e = absurd here

-- ---- A named fact matters

-- The first fact that passes a test is picked, so a picked fact passes it.
module _ (test : Deciding → Bool) where
  or_else : (fact rest : Deciding) → (T (is_named rest) → T (test rest)) → (b : Bool) → test fact ≡ b
      → T (is_named (cond b fact rest)) → T (test (cond b fact rest))
  or_else fact rest others true e named = subst T (sym e) tt
  or_else fact rest others false e named = others named

  picked_passes : let pick = cond (test (Some AllOpen)) (Some AllOpen)
      (cond (test (Some AllClosed)) (Some AllClosed)
      (cond (test (Some AllExtended)) (Some AllExtended) (cond (test (Some AllRetracted)) (Some AllRetracted) None))) in
      T (is_named pick) → T (test pick)
  picked_passes =
      or_else (Some AllOpen) _
      (or_else (Some AllClosed) _
      (or_else (Some AllExtended) _
      (or_else (Some AllRetracted) None (λ none. absurd none) (test (Some AllRetracted)) refl)
      (test (Some AllExtended))
      refl)
      (test (Some AllClosed))
      refl)
      (test (Some AllOpen))
      refl

-- Where a fact is named, what comes next with it alone and what comes next with none differ.
pub named_fact_matters : (a : Asked) (fact : Deciding) → decisive a ≡ fact → T (is_named fact) → T (decides a fact)
unfolding decisive
named_fact_matters a fact e =
    subst (λ (f : Deciding). T (is_named f) → T (decides a f)) e (picked_passes (decides a))
