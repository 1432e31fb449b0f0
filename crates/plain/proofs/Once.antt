-- No second answer meets the contract of a public function of this crate: the place, and the lent line.
-- Assumes nothing.
use Prim.Native.Nat.{ℕ}
use mathlib.Core.List.{List}
use mathlib.Core.Path.{refl, sym, ◌∙◌}
use Rattle.common.specs.OneAnswer.{OneAnswerAnd}
use Rattle.plain.proofs.put.Kinds as put_kinds
use Rattle.plain.proofs.put.Reads as put_reads
use Rattle.plain.proofs.put_item.Kinds as put_item_kinds
use Rattle.plain.proofs.put_item.Reads as put_item_reads
use Rattle.plain.proofs.put_rule.Kinds as put_rule_kinds
use Rattle.plain.proofs.put_rule.Reads as put_rule_reads

pub put_once : OneAnswerAnd 2 put_kinds.ps put_kinds.r put_reads.Post (ℕ × List ℕ) (λ κs s. (s.0.now.at, s.0.now.bytes.now))
put_once κs a x y s t p q = (refl, p.put ∙ sym q.put)

pub put_item_once : OneAnswerAnd 2 put_item_kinds.ps put_item_kinds.r put_item_reads.Post (ℕ × List ℕ) (λ κs s. (s.0.now.at, s.0.now.bytes.now))
put_item_once κs a x y s t p q = (refl, p.put ∙ sym q.put)

pub put_rule_once : OneAnswerAnd 2 put_rule_kinds.ps put_rule_kinds.r put_rule_reads.Post (ℕ × List ℕ) (λ κs s. (s.0.now.at, s.0.now.bytes.now))
put_rule_once κs a x y s t p q = (refl, p.put ∙ sym q.put)
