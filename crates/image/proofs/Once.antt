-- No second answer meets the contract of a public function of this crate: the answer, and the buffer that is lent for saving.
-- Assumes nothing.
use Prim.Native.Nat.{ℕ}
use mathlib.Core.List.{List}
use mathlib.Core.Path.{sym, ◌∙◌}
use Rattle.common.specs.OneAnswer.{OneAnswer, OneAnswerAnd}
use Rattle.common.proofs.Pairs.{both}
use Rattle.refusals.proofs.Laws.{coded_once}
use Rattle.controller.proofs.Said.{said_once}
use Rattle.controller.specs.Start.{fresh_of}
use Rattle.image.proofs.save.Kinds as save_kinds
use Rattle.image.proofs.save.Reads as save_reads
use Rattle.image.proofs.load.Kinds as load_kinds
use Rattle.image.proofs.load.Reads as load_reads
use Rattle.image.proofs.find_fault.Kinds as find_fault_kinds
use Rattle.image.proofs.find_fault.Reads as find_fault_reads
use Rattle.image.proofs.is_blank.Kinds as is_blank_kinds
use Rattle.image.proofs.is_blank.Reads as is_blank_reads
use Rattle.image.proofs.last_stamp.Kinds as last_stamp_kinds
use Rattle.image.proofs.last_stamp.Reads as last_stamp_reads

pub save_once : OneAnswerAnd 1 save_kinds.ps save_kinds.r save_reads.Post (List ℕ) (λ κs s. s.1.0.now)
save_once κs a x y s t p q = let e = both (p ∙ sym q) in (coded_once x y e.0, e.1)

pub load_once : OneAnswer 1 load_kinds.ps load_kinds.r load_reads.Post
load_once κs a x y s t p q = said_once (fresh_of 0) x y (p (fresh_of 0) ∙ sym (q (fresh_of 0)))

pub find_fault_once : OneAnswer 1 find_fault_kinds.ps find_fault_kinds.r find_fault_reads.Post
find_fault_once κs a x y s t p q = p ∙ sym q

pub is_blank_once : OneAnswer 1 is_blank_kinds.ps is_blank_kinds.r is_blank_reads.Post
is_blank_once κs a x y s t p q = p ∙ sym q

pub last_stamp_once : OneAnswer 1 last_stamp_kinds.ps last_stamp_kinds.r last_stamp_reads.Post
last_stamp_once κs a x y s t p q = p ∙ sym q
