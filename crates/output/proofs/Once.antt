-- No second answer meets the contract of a public function of this crate: the number of bytes or the refusal, and the lent buffer.
-- Assumes nothing.
use Prim.Native.Nat.{ℕ}
use mathlib.Core.List.{List}
use mathlib.Core.Path.{◌≡◌, sym, ◌∙◌}
use Rattle.common.specs.Answers.{Answer}
use Rattle.common.specs.OneAnswer.{OneAnswerAnd}
use Rattle.common.proofs.Pairs.{both}
use Rattle.std.specs.Prelude.{Result}
use Rattle.refusals.specs.declared.Refusal.{Refusal}
use Rattle.refusals.specs.Answers.{says}
use Rattle.refusals.proofs.Laws.{said_once}
use Rattle.output.proofs.write_header.Kinds as header_kinds
use Rattle.output.proofs.write_header.Reads as header_reads
use Rattle.output.proofs.write_refusal.Kinds as refusal_kinds
use Rattle.output.proofs.write_refusal.Reads as refusal_reads
use Rattle.output.proofs.write_row.Kinds as row_kinds
use Rattle.output.proofs.write_row.Reads as row_reads

once : (x y : Result ℕ Refusal) (s t : List ℕ) (rule : Answer ℕ × List ℕ) → (says x, s) ≡ rule → (says y, t) ≡ rule → (x ≡ y) × (s ≡ t)
once x y s t rule p q =
    let e = both (p ∙ sym q) in
    (said_once x y e.0, e.1)

pub write_header_once : OneAnswerAnd 1 header_kinds.ps header_kinds.r header_reads.Post (List ℕ) (λ κs s. s.0.now)
write_header_once κs a x y s t p q = once x y s.0.now t.0.now _ p q

pub write_refusal_once : OneAnswerAnd 1 refusal_kinds.ps refusal_kinds.r refusal_reads.Post (List ℕ) (λ κs s. s.1.1.0.now)
write_refusal_once κs a x y s t p q = once x y s.1.1.0.now t.1.1.0.now _ p q

pub write_row_once : OneAnswerAnd 1 row_kinds.ps row_kinds.r row_reads.Post (List ℕ) (λ κs s. s.1.1.1.0.now)
write_row_once κs a x y s t p q = once x y s.1.1.1.0.now t.1.1.1.0.now _ p q
