-- No second answer meets the contract of a public function of this crate: the answer and the buffer that is copied into.
-- Assumes nothing.
use Prim.Native.Nat.{ℕ}
use mathlib.Core.List.{List}
use mathlib.Core.Path.{sym, ◌∙◌}
use Rattle.common.specs.OneAnswer.{OneAnswer, OneAnswerAnd}
use Rattle.spans.proofs.copy.Kinds as copy_kinds
use Rattle.spans.proofs.copy.Reads as copy_reads
use Rattle.spans.proofs.find.Kinds as find_kinds
use Rattle.spans.proofs.find.Reads as find_reads

pub copy_once : OneAnswerAnd 2 copy_kinds.ps copy_kinds.r copy_reads.Post (List ℕ) (λ κs s. s.1.0.now)
copy_once κs a x y s t p q = (p.0 ∙ sym q.0, p.1 ∙ sym q.1)

pub find_once : OneAnswer 1 find_kinds.ps find_kinds.r find_reads.Post
find_once κs a x y s t p q = p.0 ∙ sym q.0
