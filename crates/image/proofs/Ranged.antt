-- Items in their ranges: the test says what it should, and so of each part.
-- Assumes nothing.
use Prim.Native.Nat.{ℕ, zero, suc, ◌≤◌, ◌<◌, suc-le-suc}
use native.Mathlib.Omega.{arith}
use mathlib.Core.List.{List, [], ◌∷◌, ◌++◌}
use mathlib.Core.Path.{◌≡◌, refl, ap}
use lib.Dec.{T, leb, leb→le, le→leb}
use lib.ListN.{length, take, drop}
use mir.Facts.{and_yes, yes_and}
use Rattle.image.specs.Items.{within, item_at}

-- Each item is at most its top.
abbrev pub UpTo : List ℕ → List ℕ → Type 0
UpTo tops items = (k : ℕ) → k < length tops → item_at items k ≤ item_at tops k

-- ---- As many items as ranges, each in its range: both ways

pub within_length : (tops items : List ℕ) → T (within tops items) → length items ≡ length tops
unfolding within
within_length [] [] h = refl
within_length [] (item ∷ items) h = absurd h
within_length (top ∷ tops) [] h = absurd h
within_length (top ∷ tops) (item ∷ items) h = ap suc (within_length tops items (and_yes (leb item top) (within tops items) h).1)

pub within_up_to : (tops items : List ℕ) → T (within tops items) → UpTo tops items
unfolding within
within_up_to [] [] h k less = absurd (omega arith)
within_up_to [] (item ∷ items) h k less = absurd h
within_up_to (top ∷ tops) [] h k less = absurd h
within_up_to (top ∷ tops) (item ∷ items) h zero less = leb→le item top (and_yes (leb item top) (within tops items) h).0
within_up_to (top ∷ tops) (item ∷ items) h (suc k) less =
    within_up_to tops items (and_yes (leb item top) (within tops items) h).1 k (omega arith)

pub up_to_within : (tops items : List ℕ) → length items ≡ length tops → UpTo tops items → T (within tops items)
unfolding within
up_to_within [] [] e h = tt
up_to_within [] (item ∷ items) e h = absurd (omega arith)
up_to_within (top ∷ tops) [] e h = absurd (omega arith)
up_to_within (top ∷ tops) (item ∷ items) e h =
    yes_and (leb item top) (within tops items) (le→leb item top (h 0 (omega arith)))
    (up_to_within tops items (omega arith) (λ k less. h (suc k) (suc-le-suc less)))

-- ---- The front and the rest

-- Items in the ranges of two lists, one after the other, are two lists of such items ..
pub within_parts :
    (front rest items : List ℕ) →
    T (within (front ++ rest) items) →
    T (within front (take (length front) items)) × T (within rest (drop (length front) items))
unfolding within
within_parts [] rest items h = (tt, h)
within_parts (top ∷ front) rest [] h = absurd h
within_parts (top ∷ front) rest (item ∷ items) h =
    let parts = and_yes (leb item top) (within (front ++ rest) items) h in
    let more = within_parts front rest items parts.1 in
    (yes_and (leb item top) (within front (take (length front) items)) parts.0 more.0, more.1)

-- .. and two such lists are one.
pub within_joined :
    (front rest one two : List ℕ) → T (within front one) → T (within rest two) → T (within (front ++ rest) (one ++ two))
unfolding within
within_joined [] rest [] two f r = r
within_joined [] rest (item ∷ one) two f r = absurd f
within_joined (top ∷ front) rest [] two f r = absurd f
within_joined (top ∷ front) rest (item ∷ one) two f r =
    let parts = and_yes (leb item top) (within front one) f in
    yes_and (leb item top) (within (front ++ rest) (one ++ two)) parts.0 (within_joined front rest one two parts.1 r)
