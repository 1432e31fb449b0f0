-- No second answer meets the contract of a public function of this crate.
-- Assumes nothing.
use mathlib.Core.Path.{◌∙◌, sym}
use Rattle.common.specs.OneAnswer.{OneAnswer}
use Rattle.monitors.proofs.cause.Kinds as cause_kinds
use Rattle.monitors.proofs.cause.Reads as cause_reads

pub cause_once : OneAnswer 0 cause_kinds.ps cause_kinds.r cause_reads.Post
cause_once κs a x y s t p q = p ∙ sym q
