-- No second answer meets the contract of a public function of this crate.
-- Assumes nothing.
use Rattle.std.proofs.Common.{sym, ◌∙◌}
use Rattle.common.specs.OneAnswer.{OneAnswer}
use Rattle.loops.proofs.Progress.first.Kinds as first_kinds
use Rattle.loops.proofs.Progress.first.Reads as first_reads
use Rattle.loops.proofs.Progress.read.Kinds as read_kinds
use Rattle.loops.proofs.Progress.read.Reads as read_reads
use Rattle.loops.proofs.Progress.not_read.Kinds as not_read_kinds
use Rattle.loops.proofs.Progress.not_read.Reads as not_read_reads
use Rattle.loops.proofs.Progress.taken_in.Kinds as taken_in_kinds
use Rattle.loops.proofs.Progress.taken_in.Reads as taken_in_reads
use Rattle.loops.proofs.Progress.goes_on.Kinds as goes_on_kinds
use Rattle.loops.proofs.Progress.goes_on.Reads as goes_on_reads

pub first_once : OneAnswer 0 first_kinds.ps first_kinds.r first_reads.Post
first_once κs a x y s t p q = p ∙ sym q

pub read_once : OneAnswer 0 read_kinds.ps read_kinds.r read_reads.Post
read_once κs a x y s t p q = p ∙ sym q

pub not_read_once : OneAnswer 0 not_read_kinds.ps not_read_kinds.r not_read_reads.Post
not_read_once κs a x y s t p q = p ∙ sym q

pub taken_in_once : OneAnswer 0 taken_in_kinds.ps taken_in_kinds.r taken_in_reads.Post
taken_in_once κs a x y s t p q = p ∙ sym q

pub goes_on_once : OneAnswer 0 goes_on_kinds.ps goes_on_kinds.r goes_on_reads.Post
goes_on_once κs a x y s t p q = p ∙ sym q
