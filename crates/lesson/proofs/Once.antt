-- No second answer meets the contract of a public function of this crate: the answer, the line buffer and the output buffer.
-- Assumes nothing.
use Prim.Native.Nat.{ℕ}
use mathlib.Core.List.{List}
use mathlib.Core.Path.{◌≡◌, ◌∙◌, sym, ap}
use Rattle.std.specs.Prelude.{Result, Ok, Err}
use Rattle.refusals.specs.declared.Refusal.{Refusal}
use Rattle.refusals.proofs.Laws.{one_number, no_zero}
use Rattle.reading.specs.declared.Run.{Run}
use Rattle.lesson.specs.declared.Took.{Took as Given}
use Rattle.lesson.specs.Answers.{Took, took_says}
use Rattle.common.specs.OneAnswer.{OneAnswerAnd}
use Rattle.common.proofs.Pairs.{both, all_three}
use Rattle.lesson.proofs.take.Kinds as take_kinds
use Rattle.lesson.proofs.take.Reads as take_reads
use Rattle.lesson.proofs.finish.Kinds as finish_kinds
use Rattle.lesson.proofs.finish.Reads as finish_reads
use Rattle.lesson.proofs.fill.Kinds as fill_kinds
use Rattle.lesson.proofs.fill.Reads as fill_reads
use Rattle.lesson.proofs.RowsTell.tell.Kinds as tell_kinds
use Rattle.lesson.proofs.RowsTell.tell.Reads as tell_reads

-- Two answers that come to the same are one.
one_took : (run : Run) (x y : Result Given Refusal) → took_says run x ≡ took_says run y → x ≡ y
one_took run (Ok x) (Ok y) e = λ i. Ok (record { run = (e i).run; used = (e i).used; written = (e i).written })
one_took run (Ok x) (Err r) e = absurd (no_zero r (sym (ap (λ (t : Took). t.refusal) e)))
one_took run (Err r) (Ok y) e = absurd (no_zero r (ap (λ (t : Took). t.refusal) e))
one_took run (Err r) (Err s) e = ap (λ (q : Refusal). Err q) (one_number r s (ap (λ (t : Took). t.refusal) e))

pub take_once : OneAnswerAnd 3 take_kinds.ps take_kinds.r take_reads.Post (List ℕ × List ℕ)
    (λ κs s. (s.1.1.0.now, s.1.1.1.0.now))
take_once κs a x y s t p q = let e = all_three (p.0 ∙ sym q.0) in (one_took a.0 x y e.0, e.1)

pub finish_once : OneAnswerAnd 2 finish_kinds.ps finish_kinds.r finish_reads.Post (List ℕ × List ℕ)
    (λ κs s. (s.1.0.now, s.1.1.0.now))
finish_once κs a x y s t p q = let e = all_three (p.0 ∙ sym q.0) in (one_took a.0 x y e.0, e.1)

pub fill_once : OneAnswerAnd 3 fill_kinds.ps fill_kinds.r fill_reads.Post (List ℕ × List ℕ)
    (λ κs s. (s.1.1.0.now, s.1.1.1.0.now))
fill_once κs a x y s t p q = let e = all_three (p.0 ∙ sym q.0) in (one_took a.0 x y e.0, e.1)

pub tell_once : OneAnswerAnd 1 tell_kinds.ps tell_kinds.r tell_reads.Post (List ℕ) (λ κs s. s.1.1.1.1.0.now)
tell_once κs a x y s t p q = both (p ∙ sym q)
