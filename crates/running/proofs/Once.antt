-- No second answer meets the contract of a function of a task; nor do second buffers, where they are lent. (What `run` answers is the operating
-- system's too. Whatever standard error is: `E` is its type.)
-- Assumes nothing.
use denote.Param.Laws.{Laws}
use denote.RattleType.{RattleType}
use mir.Syntax.{Dict}
use Rattle.std.specs.declared.io.traits.Write.{Ghosts}
use Rattle.std.proofs.Common.{◌≡◌, ℕ, List, sym, ap, ◌∙◌}
use Rattle.std.specs.Prelude.{Result, Ok, Err}
use Rattle.common.specs.OneAnswer.{OneAnswer, OneAnswerAnd}
use Rattle.common.proofs.Pairs.{both, all_three}
use Rattle.refusals.specs.declared.Refusal.{Refusal}
use Rattle.refusals.proofs.Laws.{one_number, no_zero}
use Rattle.running.specs.declared.tasks.Filled.{Filled as Gave}
use Rattle.running.specs.Answers.{Filled, filled_says}
use Rattle.running.proofs.tasks.RowsTask.start.Kinds as rows_start_kinds
use Rattle.running.proofs.tasks.RowsTask.start.Reads as rows_start_reads
use Rattle.running.proofs.tasks.RowsTask.put_header.Kinds as rows_put_header_kinds
use Rattle.running.proofs.tasks.RowsTask.put_header.Reads as rows_put_header_reads
use Rattle.running.proofs.tasks.RowsTask.has_ended.Kinds as rows_has_ended_kinds
use Rattle.running.proofs.tasks.RowsTask.has_ended.Reads as rows_has_ended_reads
use Rattle.running.proofs.tasks.RowsTask.fill.Kinds as rows_fill_kinds
use Rattle.running.proofs.tasks.RowsTask.fill.Reads as rows_fill_reads
use Rattle.running.proofs.tasks.RowsTask.last.Kinds as rows_last_kinds
use Rattle.running.proofs.tasks.RowsTask.last.Reads as rows_last_reads
use Rattle.running.proofs.tasks.RowsTask.tell.Kinds as rows_tell_kinds
use Rattle.running.proofs.tasks.RowsTask.tell.Reads as rows_tell_reads
use Rattle.running.proofs.tasks.ImageTask.start.Kinds as image_start_kinds
use Rattle.running.proofs.tasks.ImageTask.start.Reads as image_start_reads
use Rattle.running.proofs.tasks.ImageTask.put_header.Kinds as image_put_header_kinds
use Rattle.running.proofs.tasks.ImageTask.put_header.Reads as image_put_header_reads
use Rattle.running.proofs.tasks.ImageTask.has_ended.Kinds as image_has_ended_kinds
use Rattle.running.proofs.tasks.ImageTask.has_ended.Reads as image_has_ended_reads
use Rattle.running.proofs.tasks.ImageTask.fill.Kinds as image_fill_kinds
use Rattle.running.proofs.tasks.ImageTask.fill.Reads as image_fill_reads
use Rattle.running.proofs.tasks.ImageTask.last.Kinds as image_last_kinds
use Rattle.running.proofs.tasks.ImageTask.last.Reads as image_last_reads
use Rattle.running.proofs.tasks.ImageTask.tell.Kinds as image_tell_kinds
use Rattle.running.proofs.tasks.ImageTask.tell.Reads as image_tell_reads
use Rattle.running.proofs.tasks.WavesTask.start.Kinds as waves_start_kinds
use Rattle.running.proofs.tasks.WavesTask.start.Reads as waves_start_reads
use Rattle.running.proofs.tasks.WavesTask.put_header.Kinds as waves_put_header_kinds
use Rattle.running.proofs.tasks.WavesTask.put_header.Reads as waves_put_header_reads
use Rattle.running.proofs.tasks.WavesTask.has_ended.Kinds as waves_has_ended_kinds
use Rattle.running.proofs.tasks.WavesTask.has_ended.Reads as waves_has_ended_reads
use Rattle.running.proofs.tasks.WavesTask.fill.Kinds as waves_fill_kinds
use Rattle.running.proofs.tasks.WavesTask.fill.Reads as waves_fill_reads
use Rattle.running.proofs.tasks.WavesTask.last.Kinds as waves_last_kinds
use Rattle.running.proofs.tasks.WavesTask.last.Reads as waves_last_reads
use Rattle.running.proofs.tasks.WavesTask.tell.Kinds as waves_tell_kinds
use Rattle.running.proofs.tasks.WavesTask.tell.Reads as waves_tell_reads
use Rattle.running.proofs.tasks.SheetTask.start.Kinds as sheet_start_kinds
use Rattle.running.proofs.tasks.SheetTask.start.Reads as sheet_start_reads
use Rattle.running.proofs.tasks.SheetTask.put_header.Kinds as sheet_put_header_kinds
use Rattle.running.proofs.tasks.SheetTask.put_header.Reads as sheet_put_header_reads
use Rattle.running.proofs.tasks.SheetTask.has_ended.Kinds as sheet_has_ended_kinds
use Rattle.running.proofs.tasks.SheetTask.has_ended.Reads as sheet_has_ended_reads
use Rattle.running.proofs.tasks.SheetTask.fill.Kinds as sheet_fill_kinds
use Rattle.running.proofs.tasks.SheetTask.fill.Reads as sheet_fill_reads
use Rattle.running.proofs.tasks.SheetTask.last.Kinds as sheet_last_kinds
use Rattle.running.proofs.tasks.SheetTask.last.Reads as sheet_last_reads
use Rattle.running.proofs.tasks.SheetTask.tell.Kinds as sheet_tell_kinds
use Rattle.running.proofs.tasks.SheetTask.tell.Reads as sheet_tell_reads

-- A result of a call is known by the answer that it says.
said_once : {A : Type 0} (before : A) (x y : Result (Gave A) Refusal) → filled_says before x ≡ filled_says before y → x ≡ y
said_once {A} before (Ok x) (Ok y) e = ap (λ (f : Filled A). Ok (record { work = f.work; used = f.used; written = f.written })) e
said_once {A} before (Ok x) (Err r) e = absurd (no_zero r (ap (λ (f : Filled A). f.refusal) (sym e)))
said_once {A} before (Err r) (Ok y) e = absurd (no_zero r (ap (λ (f : Filled A). f.refusal) e))
said_once {A} before (Err r) (Err q) e = ap (λ (w : Refusal). Err w) (one_number r q (ap (λ (f : Filled A). f.refusal) e))

filled_once : {A : Type 0} (before : A) (x y : Result (Gave A) Refusal) {line out line' out' : List ℕ}
    → ◌≡◌ {A = Filled A × List ℕ × List ℕ} (filled_says before x, line, out) (filled_says before y, line', out')
    → (x ≡ y) × (◌≡◌ {A = List ℕ × List ℕ} (line, out) (line', out'))
filled_once before x y e = let all = all_three e in (said_once before x y all.0, all.1)

pub rows_start_once : OneAnswer 0 rows_start_kinds.ps rows_start_kinds.r rows_start_reads.Post
rows_start_once κs a x y s t p q = p ∙ sym q

pub rows_put_header_once : OneAnswerAnd 1 rows_put_header_kinds.ps rows_put_header_kinds.r rows_put_header_reads.Post (List ℕ) (λ κs s. s.0.now)
rows_put_header_once κs a x y s t p q = both (p ∙ sym q)

pub rows_has_ended_once : OneAnswer 0 rows_has_ended_kinds.ps rows_has_ended_kinds.r rows_has_ended_reads.Post
rows_has_ended_once κs a x y s t p q = p ∙ sym q

pub rows_fill_once : OneAnswerAnd 3 rows_fill_kinds.ps rows_fill_kinds.r rows_fill_reads.Post (List ℕ × List ℕ) (λ κs s. (s.1.1.0.now, s.1.1.1.0.now))
rows_fill_once κs a x y s t p q = filled_once _ x y (p.0 ∙ sym q.0)

pub rows_last_once : OneAnswerAnd 2 rows_last_kinds.ps rows_last_kinds.r rows_last_reads.Post (List ℕ × List ℕ) (λ κs s. (s.1.0.now, s.1.1.0.now))
rows_last_once κs a x y s t p q = filled_once _ x y (p.0 ∙ sym q.0)

pub rows_tell_once : (E : RattleType) (laws : Laws E) (write : Ghosts E.Denot) (dict : Dict)
    → OneAnswer 4 (rows_tell_kinds.ps E laws) (rows_tell_kinds.r E laws) (rows_tell_reads.Post E laws write dict)
rows_tell_once E laws write dict κs a x y s t p q = p ∙ sym q

pub image_start_once : OneAnswer 0 image_start_kinds.ps image_start_kinds.r image_start_reads.Post
image_start_once κs a x y s t p q = p ∙ sym q

pub image_put_header_once : OneAnswerAnd 1 image_put_header_kinds.ps image_put_header_kinds.r image_put_header_reads.Post (List ℕ) (λ κs s. s.0.now)
image_put_header_once κs a x y s t p q = both (p ∙ sym q)

pub image_has_ended_once : OneAnswer 0 image_has_ended_kinds.ps image_has_ended_kinds.r image_has_ended_reads.Post
image_has_ended_once κs a x y s t p q = p ∙ sym q

pub image_fill_once : OneAnswerAnd 3 image_fill_kinds.ps image_fill_kinds.r image_fill_reads.Post (List ℕ × List ℕ) (λ κs s. (s.1.1.0.now, s.1.1.1.0.now))
image_fill_once κs a x y s t p q = filled_once _ x y (p.0 ∙ sym q.0)

pub image_last_once : OneAnswerAnd 2 image_last_kinds.ps image_last_kinds.r image_last_reads.Post (List ℕ × List ℕ) (λ κs s. (s.1.0.now, s.1.1.0.now))
image_last_once κs a x y s t p q = filled_once _ x y (p.0 ∙ sym q.0)

pub image_tell_once : (E : RattleType) (laws : Laws E) (write : Ghosts E.Denot) (dict : Dict)
    → OneAnswer 4 (image_tell_kinds.ps E laws) (image_tell_kinds.r E laws) (image_tell_reads.Post E laws write dict)
image_tell_once E laws write dict κs a x y s t p q = p ∙ sym q

pub waves_start_once : OneAnswer 0 waves_start_kinds.ps waves_start_kinds.r waves_start_reads.Post
waves_start_once κs a x y s t p q = p ∙ sym q

pub waves_put_header_once : OneAnswerAnd 1 waves_put_header_kinds.ps waves_put_header_kinds.r waves_put_header_reads.Post (List ℕ) (λ κs s. s.0.now)
waves_put_header_once κs a x y s t p q = both (p ∙ sym q)

pub waves_has_ended_once : OneAnswer 0 waves_has_ended_kinds.ps waves_has_ended_kinds.r waves_has_ended_reads.Post
waves_has_ended_once κs a x y s t p q = p ∙ sym q

pub waves_fill_once : OneAnswerAnd 3 waves_fill_kinds.ps waves_fill_kinds.r waves_fill_reads.Post (List ℕ × List ℕ) (λ κs s. (s.1.1.0.now, s.1.1.1.0.now))
waves_fill_once κs a x y s t p q = filled_once _ x y (p.0 ∙ sym q.0)

pub waves_last_once : OneAnswerAnd 2 waves_last_kinds.ps waves_last_kinds.r waves_last_reads.Post (List ℕ × List ℕ) (λ κs s. (s.1.0.now, s.1.1.0.now))
waves_last_once κs a x y s t p q = filled_once _ x y (p.0 ∙ sym q.0)

pub waves_tell_once : (E : RattleType) (laws : Laws E) (write : Ghosts E.Denot) (dict : Dict)
    → OneAnswer 4 (waves_tell_kinds.ps E laws) (waves_tell_kinds.r E laws) (waves_tell_reads.Post E laws write dict)
waves_tell_once E laws write dict κs a x y s t p q = p ∙ sym q

pub sheet_start_once : OneAnswer 0 sheet_start_kinds.ps sheet_start_kinds.r sheet_start_reads.Post
sheet_start_once κs a x y s t p q = p ∙ sym q

pub sheet_put_header_once : OneAnswerAnd 1 sheet_put_header_kinds.ps sheet_put_header_kinds.r sheet_put_header_reads.Post (List ℕ) (λ κs s. s.0.now)
sheet_put_header_once κs a x y s t p q = both (p ∙ sym q)

pub sheet_has_ended_once : OneAnswer 0 sheet_has_ended_kinds.ps sheet_has_ended_kinds.r sheet_has_ended_reads.Post
sheet_has_ended_once κs a x y s t p q = p ∙ sym q

pub sheet_fill_once : OneAnswerAnd 3 sheet_fill_kinds.ps sheet_fill_kinds.r sheet_fill_reads.Post (List ℕ × List ℕ) (λ κs s. (s.1.1.0.now, s.1.1.1.0.now))
sheet_fill_once κs a x y s t p q = filled_once _ x y (p.0 ∙ sym q.0)

pub sheet_last_once : OneAnswerAnd 2 sheet_last_kinds.ps sheet_last_kinds.r sheet_last_reads.Post (List ℕ × List ℕ) (λ κs s. (s.1.0.now, s.1.1.0.now))
sheet_last_once κs a x y s t p q = filled_once _ x y (p.0 ∙ sym q.0)

pub sheet_tell_once : (E : RattleType) (laws : Laws E) (write : Ghosts E.Denot) (dict : Dict)
    → OneAnswer 4 (sheet_tell_kinds.ps E laws) (sheet_tell_kinds.r E laws) (sheet_tell_reads.Post E laws write dict)
sheet_tell_once E laws write dict κs a x y s t p q = p ∙ sym q
