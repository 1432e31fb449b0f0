-- Each public function's contract leaves one answer, and one content of the line that is lent: two that meet it are equal,
-- since each is what the rule gives.
-- Assumes nothing.
use Prim.Native.Nat.{ℕ}
use mathlib.Core.List.{List}
use mathlib.Core.Path.{sym, ◌∙◌}
use Rattle.common.specs.OneAnswer.{OneAnswerAnd}
use Rattle.common.proofs.Pairs.{both}
use Rattle.lines.proofs.cut.Kinds as cut_kinds
use Rattle.lines.proofs.cut.Reads as cut_reads
use Rattle.lines.proofs.last.Kinds as last_kinds
use Rattle.lines.proofs.last.Reads as last_reads

pub cut_once : OneAnswerAnd 2 cut_kinds.ps cut_kinds.r cut_reads.Post (List ℕ) (λ κs s. s.1.1.0.now)
cut_once κs a x y s t p q = both (p ∙ sym q)

pub last_once : OneAnswerAnd 1 last_kinds.ps last_kinds.r last_reads.Post (List ℕ) (λ κs s. s.0.now)
last_once κs a x y s t p q = both (p ∙ sym q)
