-- No second answer meets the contract of a public function of this crate: the answer and the lent buffer.
-- Assumes nothing.
use Rattle.std.proofs.Common.{ℕ, List, refl, sym, ◌∙◌}
use Rattle.common.specs.OneAnswer.{OneAnswer, OneAnswerAnd}
use Rattle.common.proofs.Pairs.{both}
use Rattle.sheets.proofs.Answers.{said_once}
use Rattle.sheets.proofs.Sheet.new.Kinds as new_kinds
use Rattle.sheets.proofs.Sheet.new.Reads as new_reads
use Rattle.sheets.proofs.Sheet.fill.Kinds as fill_kinds
use Rattle.sheets.proofs.Sheet.fill.Reads as fill_reads
use Rattle.sheets.proofs.Sheet.finish.Kinds as finish_kinds
use Rattle.sheets.proofs.Sheet.finish.Reads as finish_reads
use Rattle.sheets.proofs.rows.put_header.Kinds as header_kinds
use Rattle.sheets.proofs.rows.put_header.Reads as header_reads
use Rattle.sheets.proofs.rows.put_row.Kinds as row_kinds
use Rattle.sheets.proofs.rows.put_row.Reads as row_reads

pub new_once : OneAnswer 0 new_kinds.ps new_kinds.r new_reads.Post
new_once κs a x y s t p q = p ∙ sym q

-- The output buffer, as `fill` leaves it.
pub fill_once : OneAnswerAnd 2 fill_kinds.ps fill_kinds.r fill_reads.Post (List ℕ) (λ κs s. s.1.1.0.now)
fill_once κs a x y s t p q = let e = both (p.0 ∙ sym q.0) in (said_once a.0 x y e.0, e.1)

-- And as `finish` leaves it.
pub finish_once : OneAnswerAnd 1 finish_kinds.ps finish_kinds.r finish_reads.Post (List ℕ) (λ κs s. s.1.0.now)
finish_once κs a x y s t p q = let e = both (p.0 ∙ sym q.0) in (said_once a.0 x y e.0, e.1)

-- The line, as the texts' functions leave it.
pub put_header_once : OneAnswerAnd 2 header_kinds.ps header_kinds.r header_reads.Post (ℕ × List ℕ) (λ κs s. (s.0.now.at, s.0.now.bytes.now))
put_header_once κs a x y s t p q = (refl, p.put ∙ sym q.put)

pub put_row_once : OneAnswerAnd 2 row_kinds.ps row_kinds.r row_reads.Post (ℕ × List ℕ) (λ κs s. (s.0.now.at, s.0.now.bytes.now))
put_row_once κs a x y s t p q = (refl, p.put ∙ sym q.put)
