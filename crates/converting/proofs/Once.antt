-- No second answer meets the contract of a public function of this crate: the answer, and the buffer that is lent.
-- Assumes nothing.
use Prim.Native.Nat.{ℕ}
use mathlib.Core.List.{List}
use mathlib.Core.Path.{sym, ◌∙◌}
use Rattle.common.specs.OneAnswer.{OneAnswerAnd}
use Rattle.common.proofs.Pairs.{both}
use Rattle.refusals.proofs.Laws.{coded_once}
use Rattle.converting.proofs.to_new.Kinds as to_new_kinds
use Rattle.converting.proofs.to_new.Reads as to_new_reads
use Rattle.converting.proofs.to_old.Kinds as to_old_kinds
use Rattle.converting.proofs.to_old.Reads as to_old_reads

pub to_new_once : OneAnswerAnd 2 to_new_kinds.ps to_new_kinds.r to_new_reads.Post (List ℕ) (λ κs s. s.1.0.now)
to_new_once κs a x y s t p q = let e = both (p ∙ sym q) in (coded_once x y e.0, e.1)

pub to_old_once : OneAnswerAnd 2 to_old_kinds.ps to_old_kinds.r to_old_reads.Post (List ℕ) (λ κs s. s.1.0.now)
to_old_once κs a x y s t p q = let e = both (p ∙ sym q) in (coded_once x y e.0, e.1)
