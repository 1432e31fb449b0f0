-- No second answer meets the contract of a public function of this crate.
-- Assumes nothing.
use Rattle.std.proofs.Common.{sym, ◌∙◌}
use Rattle.common.specs.OneAnswer.{OneAnswer}
use Rattle.refusals.proofs.Refusal.number.Kinds as refusal_number_kinds
use Rattle.refusals.proofs.Refusal.number.Reads as refusal_number_reads

pub refusal_number_once : OneAnswer 0 refusal_number_kinds.ps refusal_number_kinds.r refusal_number_reads.Post
refusal_number_once κs a x y s t p q = p ∙ sym q
