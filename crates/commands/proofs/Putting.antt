-- Pieces that are put one after the other: the place after the last lies within the line, whether there was room for them or not.
-- Assumes nothing.
use Prim.Native.Nat.{ℕ, ◌+◌}
use native.Mathlib.Omega.{arith}
use mathlib.Core.Bool.{Bool, true, false}
use mathlib.Core.List.{List, [], ◌∷◌, ◌++◌}
use mathlib.Core.Path.{◌≡◌, refl, sym, ap, ◌∙◌}
use borrow.Author.Tests.{leb-true, leb-false}
use lib.Dec.{leb}
use lib.ListN.{length}
use Rattle.common.proofs.Pairs.{both}
use Rattle.texts.specs.Puts.{put_of}
use Rattle.texts.proofs.Placing.{did_put, no_room}
use Rattle.texts.proofs.Pieces as pieces
use Rattle.commands.specs.Messages.{PutWithin, of_file, said_of}

-- What `Line::put` and its kin promise of a line and its place.
pub put : {before : List ℕ} {at : ℕ} {piece after : List ℕ} {next : ℕ} → (next, after) ≡ put_of before at piece → PutWithin before at piece after next
put {before} {at} {piece} {after} {next} e = by_test (leb (at + length piece) (length before)) refl where
  by_test : (t : Bool) → leb (at + length piece) (length before) ≡ t → PutWithin before at piece after next
  by_test true fits =
      let done = did_put (leb-true (at + length piece) (length before) fits) e in
      ((λ h. omega (arith, done.place, leb-true (at + length piece) (length before) fits)), done.size, pieces.put e)
  by_test false short =
      let same = both (e ∙ sym (no_room before at piece (leb-false (at + length piece) (length before) short))) in
      ((λ h. omega (arith, same.0)), ap length same.1, pieces.put e)

-- A piece, and a piece behind it.
pub and : {before : List ℕ} {at : ℕ} {one between : List ℕ} {next : ℕ} {two after : List ℕ} {end : ℕ}
    → PutWithin before at one between next → PutWithin between next two after end → PutWithin before at (one ++ two) after end
and p q = ((λ h. omega (arith, p.0 h, p.1, q.0 (omega (arith, p.0 h, p.1)))), q.1 ∙ p.1, pieces.and p.2 q.2)

-- An empty path is left out, and no other.
pub without_path : (path what : List ℕ) → length path ≡ 0 → said_of path what ≡ what
unfolding said_of
without_path [] what e = refl
without_path (b ∷ path) what e = absurd (omega arith)

pub with_path : (path what : List ℕ) → ¬ (length path ≡ 0) → said_of path what ≡ of_file path what
unfolding said_of
with_path [] what some = absurd (some refl)
with_path (b ∷ path) what some = refl
