-- No second answer meets the contract of a public function of this crate.
-- Assumes nothing.
use Prim.Native.Nat.{ℕ}
use mathlib.Core.List.{List}
use mathlib.Core.Path.{◌≡◌, ◌∙◌, sym, ap}
use Rattle.std.specs.Prelude.{Result, Ok, Err}
use Rattle.refusals.specs.declared.Refusal.{Refusal}
use Rattle.refusals.proofs.Laws.{one_number, no_zero}
use Rattle.common.specs.OneAnswer.{OneAnswer, OneAnswerAnd}
use Rattle.common.proofs.Pairs.{both, all_three}
use denote.Param.Laws.{Laws, IsCopy}
use denote.RattleType.{RattleType}
use mir.Syntax.{Dict}
use Rattle.std.specs.declared.clone.Clone
use Rattle.reading.specs.declared.telling.Tell
use Rattle.reading.specs.declared.telling.Took.{Took}
use Rattle.reading.specs.Runs.{Called}
use Rattle.reading.specs.Called.{called_says}
use Rattle.reading.specs.declared.Next.{Next as Given}
use Rattle.reading.specs.declared.Run.{Run}
use Rattle.reading.specs.Answers.{Next, next_says}
use Rattle.reading.proofs.Phase.line.Kinds as line_kinds
use Rattle.reading.proofs.Phase.line.Reads as line_reads
use Rattle.reading.proofs.Phase.has_ended.Kinds as has_ended_kinds
use Rattle.reading.proofs.Phase.has_ended.Reads as has_ended_reads
use Rattle.reading.proofs.Phase.has_started.Kinds as has_started_kinds
use Rattle.reading.proofs.Phase.has_started.Reads as has_started_reads
use Rattle.reading.proofs.Reading.from.Kinds as reading_from_kinds
use Rattle.reading.proofs.Reading.from.Reads as reading_from_reads
use Rattle.reading.proofs.Reading.new.Kinds as reading_new_kinds
use Rattle.reading.proofs.Reading.new.Reads as reading_new_reads
use Rattle.reading.proofs.Reading.row.Kinds as reading_row_kinds
use Rattle.reading.proofs.Reading.row.Reads as reading_row_reads
use Rattle.reading.proofs.Reading.over.Kinds as reading_over_kinds
use Rattle.reading.proofs.Reading.over.Reads as reading_over_reads
use Rattle.reading.proofs.Reading.end.Kinds as reading_end_kinds
use Rattle.reading.proofs.Reading.end.Reads as reading_end_reads
use Rattle.reading.proofs.Run.from.Kinds as run_from_kinds
use Rattle.reading.proofs.Run.from.Reads as run_from_reads
use Rattle.reading.proofs.Run.new.Kinds as run_new_kinds
use Rattle.reading.proofs.Run.new.Reads as run_new_reads
use Rattle.reading.proofs.Run.phase.Kinds as run_phase_kinds
use Rattle.reading.proofs.Run.phase.Reads as run_phase_reads
use Rattle.reading.proofs.Run.state.Kinds as run_state_kinds
use Rattle.reading.proofs.Run.state.Reads as run_state_reads
use Rattle.reading.proofs.Run.take.Kinds as run_take_kinds
use Rattle.reading.proofs.Run.take.Reads as run_take_reads
use Rattle.reading.proofs.Run.finish.Kinds as run_finish_kinds
use Rattle.reading.proofs.Run.finish.Reads as run_finish_reads
use Rattle.reading.proofs.telling.take.Kinds as telling_take_kinds
use Rattle.reading.proofs.telling.take.Reads as telling_take_reads
use Rattle.reading.proofs.telling.finish.Kinds as telling_finish_kinds
use Rattle.reading.proofs.telling.finish.Reads as telling_finish_reads
use Rattle.reading.proofs.telling.fill.Kinds as telling_fill_kinds
use Rattle.reading.proofs.telling.fill.Reads as telling_fill_reads

-- Two answers that come to the same are one.
one_next : (run : Run) (x y : Result Given Refusal) → next_says run x ≡ next_says run y → x ≡ y
one_next run (Ok x) (Ok y) e = λ i. Ok (record { run = (e i).run; came = (e i).came; used = (e i).used })
one_next run (Ok x) (Err r) e = absurd (no_zero r (sym (ap (λ (n : Next). n.refusal) e)))
one_next run (Err r) (Ok y) e = absurd (no_zero r (ap (λ (n : Next). n.refusal) e))
one_next run (Err r) (Err s) e = ap (λ (q : Refusal). Err q) (one_number r s (ap (λ (n : Next). n.refusal) e))

pub line_once : OneAnswer 0 line_kinds.ps line_kinds.r line_reads.Post
line_once κs a x y s t p q = p ∙ sym q

pub has_ended_once : OneAnswer 0 has_ended_kinds.ps has_ended_kinds.r has_ended_reads.Post
has_ended_once κs a x y s t p q = p ∙ sym q

pub has_started_once : OneAnswer 0 has_started_kinds.ps has_started_kinds.r has_started_reads.Post
has_started_once κs a x y s t p q = p ∙ sym q

pub reading_from_once : OneAnswer 0 reading_from_kinds.ps reading_from_kinds.r reading_from_reads.Post
reading_from_once κs a x y s t p q = p ∙ sym q

pub reading_new_once : OneAnswer 0 reading_new_kinds.ps reading_new_kinds.r reading_new_reads.Post
reading_new_once κs a x y s t p q = p ∙ sym q

pub reading_row_once : OneAnswer 1 reading_row_kinds.ps reading_row_kinds.r reading_row_reads.Post
reading_row_once κs a x y s t p q = p ∙ sym q

pub reading_over_once : OneAnswer 0 reading_over_kinds.ps reading_over_kinds.r reading_over_reads.Post
reading_over_once κs a x y s t p q = p ∙ sym q

pub reading_end_once : OneAnswer 0 reading_end_kinds.ps reading_end_kinds.r reading_end_reads.Post
reading_end_once κs a x y s t p q = p ∙ sym q

pub run_from_once : OneAnswer 0 run_from_kinds.ps run_from_kinds.r run_from_reads.Post
run_from_once κs a x y s t p q = p ∙ sym q

pub run_new_once : OneAnswer 0 run_new_kinds.ps run_new_kinds.r run_new_reads.Post
run_new_once κs a x y s t p q = p ∙ sym q

pub run_phase_once : OneAnswer 0 run_phase_kinds.ps run_phase_kinds.r run_phase_reads.Post
run_phase_once κs a x y s t p q = p ∙ sym q

pub run_state_once : OneAnswer 0 run_state_kinds.ps run_state_kinds.r run_state_reads.Post
run_state_once κs a x y s t p q = p ∙ sym q

-- With the line buffer, as `take` and `finish` leave it.
pub run_take_once : OneAnswerAnd 2 run_take_kinds.ps run_take_kinds.r run_take_reads.Post (List ℕ) (λ κs s. s.1.1.0.now)
run_take_once κs a x y s t p q = let e = both (p ∙ sym q) in (one_next a.0 x y e.0, e.1)

pub run_finish_once : OneAnswerAnd 1 run_finish_kinds.ps run_finish_kinds.r run_finish_reads.Post (List ℕ) (λ κs s. s.1.0.now)
run_finish_once κs a x y s t p q = let e = both (p ∙ sym q) in (one_next a.0 x y e.0, e.1)

-- Whatever the teller: `T` is its type, and `C` that of what is carried on.
one_called : {A : Type 0} (a : A) (run : Run) (x y : Result (Took A) Refusal) → called_says a run x ≡ called_says a run y → x ≡ y
one_called a run (Ok x) (Ok y) e = λ i. Ok (record { run = (e i).run; carried = (e i).carried; used = (e i).used; written = (e i).written })
one_called {A} a run (Ok x) (Err r) e = absurd (no_zero r (sym (ap (λ (t : Called A). t.refusal) e)))
one_called {A} a run (Err r) (Ok y) e = absurd (no_zero r (ap (λ (t : Called A). t.refusal) e))
one_called {A} a run (Err r) (Err s) e = ap (λ (q : Refusal). Err q) (one_number r s (ap (λ (t : Called A). t.refusal) e))

module _ (T C : RattleType) (tells : Laws T) (carries : Laws C) (copies : IsCopy C) (tell : Tell.Ghosts T.Denot C.Denot) (d : Dict)
    (clone : Clone.Ghosts C.Denot) (e : Dict) where
  pub telling_take_once : OneAnswerAnd 5 (telling_take_kinds.ps T C tells carries copies) (telling_take_kinds.r T C tells carries copies)
      (telling_take_reads.Post T C tells carries copies tell d clone e) (List ℕ × List ℕ) (λ κs s. (s.1.1.1.0.now, s.1.1.1.1.0.now))
  telling_take_once κs a x y s t p q = let f = all_three (p.0 ∙ sym q.0) in (one_called a.0 a.1.0 x y f.0, f.1)

  pub telling_finish_once : OneAnswerAnd 4 (telling_finish_kinds.ps T C tells carries copies) (telling_finish_kinds.r T C tells carries copies)
      (telling_finish_reads.Post T C tells carries copies tell d clone e) (List ℕ × List ℕ) (λ κs s. (s.1.1.0.now, s.1.1.1.0.now))
  telling_finish_once κs a x y s t p q = let f = all_three (p.0 ∙ sym q.0) in (one_called a.0 a.1.0 x y f.0, f.1)

  pub telling_fill_once : OneAnswerAnd 5 (telling_fill_kinds.ps T C tells carries copies) (telling_fill_kinds.r T C tells carries copies)
      (telling_fill_reads.Post T C tells carries copies tell d clone e) (List ℕ × List ℕ) (λ κs s. (s.1.1.1.0.now, s.1.1.1.1.0.now))
  telling_fill_once κs a x y s t p q = let f = all_three (p.0 ∙ sym q.0) in (one_called a.0 a.1.0 x y f.0, f.1)
