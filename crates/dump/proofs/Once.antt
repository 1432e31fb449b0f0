-- No second answer meets the contract of a public function of this crate: the answer and the lent buffer.
-- Assumes nothing.
use Prim.Native.Nat.{ℕ}
use mathlib.Core.List.{List}
use mathlib.Core.Path.{sym, ◌∙◌}
use Rattle.common.specs.OneAnswer.{OneAnswer, OneAnswerAnd}
use Rattle.common.proofs.Pairs.{both}
use Rattle.dump.specs.Writes.{starts_with}
use Rattle.dump.proofs.Answers.{said_once}
use Rattle.dump.proofs.opening.Kinds as opening_kinds
use Rattle.dump.proofs.opening.Reads as opening_reads
use Rattle.dump.proofs.closing.Kinds as closing_kinds
use Rattle.dump.proofs.closing.Reads as closing_reads
use Rattle.dump.proofs.Dump.start.Kinds as start_kinds
use Rattle.dump.proofs.Dump.start.Reads as start_reads
use Rattle.dump.proofs.Dump.next.Kinds as next_kinds
use Rattle.dump.proofs.Dump.next.Reads as next_reads

pub opening_once : OneAnswer 0 opening_kinds.ps opening_kinds.r opening_reads.Post
opening_once κs a x y s t p q = p ∙ sym q

pub closing_once : OneAnswer 0 closing_kinds.ps closing_kinds.r closing_reads.Post
closing_once κs a x y s t p q = p ∙ sym q

pub start_once : OneAnswerAnd 1 start_kinds.ps start_kinds.r start_reads.Post (List ℕ) (λ κs s. s.1.0.now)
start_once κs a x y s t p q = let e = both (p ∙ sym q) in (said_once (starts_with a.0) x y e.0, e.1)

pub next_once : OneAnswerAnd 1 next_kinds.ps next_kinds.r next_reads.Post (List ℕ) (λ κs s. s.1.1.1.0.now)
next_once κs a x y s t p q = let e = both (p ∙ sym q) in (said_once a.0 x y e.0, e.1)
