-- No second answer meets the contract of a public function of this crate: the place, and the lent buffer.
-- Assumes nothing.
use Prim.Native.Nat.{ℕ}
use mathlib.Core.List.{List}
use mathlib.Core.Path.{refl, sym, ◌∙◌}
use Rattle.common.specs.OneAnswer.{OneAnswerAnd}
use Rattle.chart.proofs.csv.put_table.Kinds as put_table_kinds
use Rattle.chart.proofs.csv.put_table.Reads as put_table_reads
use Rattle.chart.proofs.page.put_page.Kinds as put_page_kinds
use Rattle.chart.proofs.page.put_page.Reads as put_page_reads

pub put_table_once : OneAnswerAnd 2 put_table_kinds.ps put_table_kinds.r put_table_reads.Post (ℕ × List ℕ) (λ κs s. (s.0.now.at, s.0.now.bytes.now))
put_table_once κs a x y s t p q = (refl, p.put ∙ sym q.put)

pub put_page_once : OneAnswerAnd 2 put_page_kinds.ps put_page_kinds.r put_page_reads.Post (ℕ × List ℕ) (λ κs s. (s.0.now.at, s.0.now.bytes.now))
put_page_once κs a x y s t p q = (refl, p.put ∙ sym q.put)
