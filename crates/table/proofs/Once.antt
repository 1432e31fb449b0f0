-- No second answer meets the contract of a public function of this crate.
-- Assumes nothing.
use mathlib.Core.Path.{◌∙◌, sym}
use Rattle.common.specs.OneAnswer.{OneAnswer}
use Rattle.table.proofs.moved.Kinds as moved_kinds
use Rattle.table.proofs.moved.Reads as moved_reads
use Rattle.table.proofs.all_entries.Kinds as all_entries_kinds
use Rattle.table.proofs.all_entries.Reads as all_entries_reads
use Rattle.table.proofs.table_number.Kinds as table_number_kinds
use Rattle.table.proofs.table_number.Reads as table_number_reads
use Rattle.table.proofs.changed_by_ground.Kinds as changed_by_ground_kinds
use Rattle.table.proofs.changed_by_ground.Reads as changed_by_ground_reads
use Rattle.table.proofs.Asked.number.Kinds as asked_number_kinds
use Rattle.table.proofs.Asked.number.Reads as asked_number_reads
use Rattle.table.proofs.Asked.numbered.Kinds as asked_numbered_kinds
use Rattle.table.proofs.Asked.numbered.Reads as asked_numbered_reads
use Rattle.table.proofs.Asked.next.Kinds as asked_next_kinds
use Rattle.table.proofs.Asked.next.Reads as asked_next_reads

pub moved_once : OneAnswer 0 moved_kinds.ps moved_kinds.r moved_reads.Post
moved_once κs a x y s t p q = p ∙ sym q

pub all_entries_once : OneAnswer 0 all_entries_kinds.ps all_entries_kinds.r all_entries_reads.Post
all_entries_once κs a x y s t p q = p ∙ sym q

pub table_number_once : OneAnswer 0 table_number_kinds.ps table_number_kinds.r table_number_reads.Post
table_number_once κs a x y s t p q = p ∙ sym q

pub changed_by_ground_once : OneAnswer 0 changed_by_ground_kinds.ps changed_by_ground_kinds.r changed_by_ground_reads.Post
changed_by_ground_once κs a x y s t p q = p ∙ sym q

pub asked_number_once : OneAnswer 0 asked_number_kinds.ps asked_number_kinds.r asked_number_reads.Post
asked_number_once κs a x y s t p q = p ∙ sym q

pub asked_numbered_once : OneAnswer 0 asked_numbered_kinds.ps asked_numbered_kinds.r asked_numbered_reads.Post
asked_numbered_once κs a x y s t p q = p ∙ sym q

pub asked_next_once : OneAnswer 0 asked_next_kinds.ps asked_next_kinds.r asked_next_reads.Post
asked_next_once κs a x y s t p q = p ∙ sym q
