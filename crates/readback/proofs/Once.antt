-- No second answer meets the contract of a public function of this crate: the answer and the lent buffer.
-- Assumes nothing.
use Prim.Native.Nat.{ℕ}
use mathlib.Core.List.{List}
use mathlib.Core.Path.{sym, ◌∙◌}
use Rattle.common.specs.OneAnswer.{OneAnswer, OneAnswerAnd}
use Rattle.common.proofs.Pairs.{both}
use Rattle.readback.proofs.Answers.{said_once}
use Rattle.readback.proofs.Reader.new.Kinds as new_kinds
use Rattle.readback.proofs.Reader.new.Reads as new_reads
use Rattle.readback.proofs.Reader.take.Kinds as take_kinds
use Rattle.readback.proofs.Reader.take.Reads as take_reads
use Rattle.readback.proofs.Reader.finish.Kinds as finish_kinds
use Rattle.readback.proofs.Reader.finish.Reads as finish_reads

pub new_once : OneAnswer 0 new_kinds.ps new_kinds.r new_reads.Post
new_once κs a x y s t p q = p ∙ sym q

-- The values' buffer, as `take` leaves it.
pub take_once : OneAnswerAnd 2 take_kinds.ps take_kinds.r take_reads.Post (List ℕ) (λ κs s. s.1.1.0.now)
take_once κs a x y s t p q = let e = both (p ∙ sym q) in (said_once a.0 x y e.0, e.1)

-- And as `finish` leaves it.
pub finish_once : OneAnswerAnd 1 finish_kinds.ps finish_kinds.r finish_reads.Post (List ℕ) (λ κs s. s.1.0.now)
finish_once κs a x y s t p q = let e = both (p ∙ sym q) in (said_once a.0 x y e.0, e.1)
