-- No second answer meets the contract of a public function of this crate: the answer, and the buffer that is lent.
-- Assumes nothing.
use Prim.Native.Nat.{ℕ}
use mathlib.Core.List.{List}
use mathlib.Core.Path.{sym, ◌∙◌}
use Rattle.common.specs.OneAnswer.{OneAnswerAnd}
use Rattle.common.proofs.Pairs.{both}
use Rattle.forms.proofs.put_new.Kinds as put_new_kinds
use Rattle.forms.proofs.put_new.Reads as put_new_reads
use Rattle.forms.proofs.put_old.Kinds as put_old_kinds
use Rattle.forms.proofs.put_old.Reads as put_old_reads

pub put_new_once : OneAnswerAnd 2 put_new_kinds.ps put_new_kinds.r put_new_reads.Post (List ℕ) (λ κs s. s.0.now)
put_new_once κs a x y s t p q = both (p ∙ sym q)

pub put_old_once : OneAnswerAnd 2 put_old_kinds.ps put_old_kinds.r put_old_reads.Post (List ℕ) (λ κs s. s.0.now)
put_old_once κs a x y s t p q = both (p ∙ sym q)
