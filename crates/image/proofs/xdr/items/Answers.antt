-- `image::xdr::items` meets its contract: after k turns the first k are those of the image.
-- Assumes nothing.
use Rattle.std.proofs.Common.{sym, ◌∙◌, drop, length, arith, ◌≡◌, replicate}
use lib.ListN.{length-replicate, length-set, length-take, length-drop}
use lib.Seq.{get_or-take, get_or-drop}
use Rattle.image.specs.Xdr.{items_in}
use Rattle.image.proofs.Fours.{items_length}
use Rattle.image.proofs.Filling.{one_more}
use Rattle.image.proofs.xdr.items.Goals as goal
use Rattle.image.proofs.xdr.items.Invariants.{theirs}

pub loop-k-preserved : goal.loop-k-preserved
loop-k-preserved g c =
    let l = c.loop-k in
    let a = c.args in
    let n = g.row.N in
    let items = items_in a.image.now in
    let here = get_or-take n (drop a.at items) l.k 0 (omega arith) ∙ get_or-drop a.at items l.k 0 in
    let all : length (theirs a.image.now a.at n) ≡ n = simp (length-take, length-drop) (omega (arith, items_length a.image.now)) in (
      length-set l.place-items l.k _ ∙ l.invariant.0,
      one_more (theirs a.image.now a.at n) (replicate n 0) l.k l.invariant.1 0 (c.item.ensures ∙ sym here) (simp length-replicate (omega arith)) (omega (arith, all)),
    )
