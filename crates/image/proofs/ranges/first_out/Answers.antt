-- `image::ranges::first_out` meets its contract: the items that were looked at are in their ranges, and are so many.
-- Assumes nothing.
use Prim.Native.Nat.{ℕ, suc, ◌+◌, ◌<◌, ◌≤◌}
use native.Mathlib.Omega.{arith}
use mathlib.Core.Bool.{Bool, cond}
use mathlib.Core.List.{List}
use mathlib.Core.Path.{◌≡◌, ap, ◌∙◌}
use borrow.Author.Tests.{le-leb, lt-leb}
use lib.Dec.{leb}
use lib.ListN.{length, drop}
use Rattle.image.specs.Xdr.{items_in}
use Rattle.image.specs.Items.{item_count, tops, item_at}
use Rattle.image.specs.Faults.{first_out}
use Rattle.image.proofs.Fours.{items_length}
use Rattle.image.proofs.Searching.{out_turn, out_end}
use Rattle.image.proofs.Strung.{tops_length}
use Rattle.image.proofs.ranges.first_out.Goals as goal

module _ (image : List ℕ) (k item top : ℕ) (inside : k < item_count) (long : length (items_in image) ≡ item_count) (read : item ≡ item_at (items_in image) k) (most : top ≡ item_at tops k) where
  abbrev rest : ℕ → ℕ
  rest j = first_out (drop j tops) (drop j (items_in image))

  turn : rest k ≡ cond (leb item top) (suc (rest (k + 1))) 0
  turn = rw (read, most) (out_turn tops (items_in image) k (omega (arith, tops_length)) (omega (arith, long)))

  out : top < item → rest k ≡ 0
  out h = turn ∙ ap (λ (t : Bool). cond t (suc (rest (k + 1))) 0) (lt-leb item top h)

  past : item ≤ top → rest k ≡ suc (rest (k + 1))
  past h = turn ∙ ap (λ (t : Bool). cond t (suc (rest (k + 1))) 0) (le-leb item top h)

pub loop-k-init : goal.loop-k-init
loop-k-init c = (omega (arith, items_length c.args.new.now), omega arith)

pub returns-then-top-item : goal.returns-then-top-item
returns-then-top-item c =
    let l = c.loop-k in
    (omega (arith, l.invariant.1, out c.args.new.now l.k _ _ (omega arith) l.invariant.0 c.item.ensures c.top.ensures c.if-top-item.true), omega arith)

pub loop-k-preserved : goal.loop-k-preserved
loop-k-preserved c =
    let l = c.loop-k in (
      l.invariant.0,
      omega (arith, l.invariant.1, past c.args.new.now l.k _ _ (omega arith) l.invariant.0 c.item.ensures c.top.ensures c.if-top-item.false),
    )

pub returns : goal.returns
returns c =
    let l = c.loop-k in
    omega (arith, l.invariant.1, out_end tops (items_in c.args.new.now) l.k (omega (arith, tops_length)))
