-- `image::xdr::items` meets its contract: after k turns the first k are those of the image.
-- Assumes nothing.
use Rattle.std.proofs.Common.{◌≡◌, ℕ, List, length, take, drop}
use lib.Seq.{paste}
use Rattle.image.specs.Xdr.{items_in}
use Rattle.image.proofs.xdr.items.Given as goal

-- The items that are asked for.
abbrev pub theirs : List ℕ → ℕ → ℕ → List ℕ
theirs image at n = take n (drop at (items_in image))

abbrev pub invariant-loop-k : goal.invariant-loop-k
invariant-loop-k g l = (length l.place-items ≡ g.row.N) × (l.place-items ≡ paste l.initial.place-items 0 (theirs l.image l.at g.row.N) l.k)
