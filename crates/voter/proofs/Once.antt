-- No second answer meets the contract of a public function of this crate.
-- Assumes nothing.
use mathlib.Core.Path.{◌∙◌, sym}
use Rattle.common.specs.OneAnswer.{OneAnswer}
use Rattle.voter.proofs.Voter.fresh.Kinds as fresh_kinds
use Rattle.voter.proofs.Voter.fresh.Reads as fresh_reads
use Rattle.voter.proofs.Voter.vote.Kinds as vote_kinds
use Rattle.voter.proofs.Voter.vote.Reads as vote_reads
use Rattle.voter.proofs.Voter.value.Kinds as value_kinds
use Rattle.voter.proofs.Voter.value.Reads as value_reads
use Rattle.voter.proofs.Voter.invalid.Kinds as invalid_kinds
use Rattle.voter.proofs.Voter.invalid.Reads as invalid_reads
use Rattle.voter.proofs.Voter.number.Kinds as number_kinds
use Rattle.voter.proofs.Voter.number.Reads as number_reads
use Rattle.voter.proofs.Channels.numbered.Kinds as numbered_kinds
use Rattle.voter.proofs.Channels.numbered.Reads as numbered_reads
use Rattle.voter.proofs.majority_of.Kinds as majority_of_kinds
use Rattle.voter.proofs.majority_of.Reads as majority_of_reads

pub fresh_once : OneAnswer 0 fresh_kinds.ps fresh_kinds.r fresh_reads.Post
fresh_once κs a x y s t p q = p ∙ sym q

pub vote_once : OneAnswer 0 vote_kinds.ps vote_kinds.r vote_reads.Post
vote_once κs a x y s t p q = p ∙ sym q

pub value_once : OneAnswer 0 value_kinds.ps value_kinds.r value_reads.Post
value_once κs a x y s t p q = p ∙ sym q

pub invalid_once : OneAnswer 0 invalid_kinds.ps invalid_kinds.r invalid_reads.Post
invalid_once κs a x y s t p q = p ∙ sym q

pub number_once : OneAnswer 0 number_kinds.ps number_kinds.r number_reads.Post
number_once κs a x y s t p q = p ∙ sym q

pub numbered_once : OneAnswer 0 numbered_kinds.ps numbered_kinds.r numbered_reads.Post
numbered_once κs a x y s t p q = p ∙ sym q

pub majority_of_once : OneAnswer 0 majority_of_kinds.ps majority_of_kinds.r majority_of_reads.Post
majority_of_once κs a x y s t p q = p ∙ sym q
