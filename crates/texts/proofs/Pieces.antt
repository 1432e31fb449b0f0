-- Pieces that are put one after the other, each if there is room for it: the room for all of them is room for each.
-- Assumes nothing.
use Prim.Native.Nat.{ℕ, ◌+◌, ◌≤◌}
use native.Mathlib.Omega.{arith}
use mathlib.Core.List.{List, [], ◌++◌}
use mathlib.Core.Path.{◌≡◌}
use lib.ListN.{length, length-append}
use Rattle.texts.specs.Puts.{Put, PutIfRoom, put_of}
use Rattle.texts.proofs.Placing.{did_put, then, put_nothing}

-- Nothing is put.
pub nothing : (line : List ℕ) (at : ℕ) → PutIfRoom line at [] line at
nothing line at room = put_nothing line at

-- The same piece written otherwise.
pub same : {before : List ℕ} {at : ℕ} {one other after : List ℕ} {next : ℕ}
    → one ≡ other → PutIfRoom before at one after next → PutIfRoom before at other after next
same {one = one} {other = other} e p = rw e at p

-- What `texts::put` and its kin promise.
pub put : {before : List ℕ} {at : ℕ} {piece after : List ℕ} {next : ℕ}
    → (next, after) ≡ put_of before at piece → PutIfRoom before at piece after next
put e room = did_put room e

-- A piece, and a piece behind it.
pub and : {before : List ℕ} {at : ℕ} {one between : List ℕ} {next : ℕ} {two after : List ℕ} {end : ℕ}
    → PutIfRoom before at one between next → PutIfRoom between next two after end → PutIfRoom before at (one ++ two) after end
and {one = one} {two = two} p q room =
    let long = length-append one two in
    let first = p (omega arith) in
    then first (q (omega (arith, first.place, first.size)))

-- A piece that is no longer than this, in a line that has room for so much.
pub within : {before : List ℕ} {at : ℕ} {piece after : List ℕ} {next : ℕ} → PutIfRoom before at piece after next
    → (most : ℕ) → length piece ≤ most → at + most ≤ length before → (next ≤ at + most) × Put before at piece after next
within p most fits room = let all = p (omega arith) in (omega (arith, all.place), all)
