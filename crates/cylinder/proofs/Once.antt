-- No second answer meets the contract of a public function of this crate.
-- Assumes nothing.
use Rattle.std.proofs.Common.{sym, ◌∙◌}
use Rattle.common.specs.OneAnswer.{OneAnswer}
use Rattle.refusals.proofs.Laws.{said_once}
use Rattle.cylinder.proofs.fraction.Kinds as fraction_kinds
use Rattle.cylinder.proofs.fraction.Reads as fraction_reads
use Rattle.cylinder.proofs.parts_of.Kinds as parts_of_kinds
use Rattle.cylinder.proofs.parts_of.Reads as parts_of_reads
use Rattle.cylinder.proofs.is_position.Kinds as is_position_kinds
use Rattle.cylinder.proofs.is_position.Reads as is_position_reads
use Rattle.cylinder.proofs.is_rate.Kinds as is_rate_kinds
use Rattle.cylinder.proofs.is_rate.Reads as is_rate_reads
use Rattle.cylinder.proofs.Cylinder.at.Kinds as at_kinds
use Rattle.cylinder.proofs.Cylinder.at.Reads as at_reads
use Rattle.cylinder.proofs.Cylinder.is_sound.Kinds as is_sound_kinds
use Rattle.cylinder.proofs.Cylinder.is_sound.Reads as is_sound_reads
use Rattle.cylinder.proofs.Cylinder.moved.Kinds as moved_kinds
use Rattle.cylinder.proofs.Cylinder.moved.Reads as moved_reads

pub fraction_once : OneAnswer 0 fraction_kinds.ps fraction_kinds.r fraction_reads.Post
fraction_once κs a x y s t p q = p ∙ sym q

pub parts_of_once : OneAnswer 0 parts_of_kinds.ps parts_of_kinds.r parts_of_reads.Post
parts_of_once κs a x y s t p q = p ∙ sym q

pub is_position_once : OneAnswer 0 is_position_kinds.ps is_position_kinds.r is_position_reads.Post
is_position_once κs a x y s t p q = p ∙ sym q

pub is_rate_once : OneAnswer 0 is_rate_kinds.ps is_rate_kinds.r is_rate_reads.Post
is_rate_once κs a x y s t p q = p ∙ sym q

pub at_once : OneAnswer 0 at_kinds.ps at_kinds.r at_reads.Post
at_once κs a x y s t p q = p ∙ sym q

pub is_sound_once : OneAnswer 0 is_sound_kinds.ps is_sound_kinds.r is_sound_reads.Post
is_sound_once κs a x y s t p q = p ∙ sym q

pub moved_once : OneAnswer 0 moved_kinds.ps moved_kinds.r moved_reads.Post
moved_once κs a x y s t p q = said_once x y (p ∙ sym q)
