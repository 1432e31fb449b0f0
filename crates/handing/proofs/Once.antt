-- No second answer meets the contract of a public function of this crate: the answer, and the buffer that is lent.
-- Assumes nothing.
use Prim.Native.Nat.{ℕ}
use mathlib.Core.List.{List}
use mathlib.Core.Path.{◌≡◌, ◌∙◌, sym, ap}
use Rattle.std.specs.Prelude.{Result, Ok, Err}
use Rattle.refusals.specs.declared.Refusal.{Refusal}
use Rattle.refusals.proofs.Laws.{one_number, no_zero}
use Rattle.handing.specs.Answers.{Saved, saved_says}
use Rattle.common.specs.OneAnswer.{OneAnswer, OneAnswerAnd}
use Rattle.common.proofs.Pairs.{both}
use Rattle.handing.proofs.save_last.Kinds as save_last_kinds
use Rattle.handing.proofs.save_last.Reads as save_last_reads
use Rattle.handing.proofs.last_line.Kinds as last_line_kinds
use Rattle.handing.proofs.last_line.Reads as last_line_reads

-- Two answers that come to the same are one.
one_saved : (x y : Result ℕ Refusal) → saved_says x ≡ saved_says y → x ≡ y
one_saved (Ok x) (Ok y) e = λ i. Ok (e i).written
one_saved (Ok x) (Err r) e = absurd (no_zero r (sym (ap (λ (s : Saved). s.refusal) e)))
one_saved (Err r) (Ok y) e = absurd (no_zero r (ap (λ (s : Saved). s.refusal) e))
one_saved (Err r) (Err s) e = ap (λ (q : Refusal). Err q) (one_number r s (ap (λ (t : Saved). t.refusal) e))

pub last_line_once : OneAnswer 0 last_line_kinds.ps last_line_kinds.r last_line_reads.Post
last_line_once κs a x y s t p q = p ∙ sym q

pub save_last_once : OneAnswerAnd 1 save_last_kinds.ps save_last_kinds.r save_last_reads.Post (List ℕ) (λ κs s. s.1.0.now)
save_last_once κs a x y s t p q = let e = both (p ∙ sym q) in (one_saved x y e.0, e.1)
