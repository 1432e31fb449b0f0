-- No second answer meets the contract of a public function of this crate.
-- Assumes nothing.
use mathlib.Core.Path.{◌∙◌, sym}
use Rattle.common.specs.OneAnswer.{OneAnswer}
use Rattle.sensors.proofs.items.Kinds as items_kinds
use Rattle.sensors.proofs.items.Reads as items_reads
use Rattle.sensors.proofs.tops.Kinds as tops_kinds
use Rattle.sensors.proofs.tops.Reads as tops_reads
use Rattle.sensors.proofs.from_items.Kinds as from_items_kinds
use Rattle.sensors.proofs.from_items.Reads as from_items_reads
use Rattle.sensors.proofs.count_rules.Kinds as count_rules_kinds
use Rattle.sensors.proofs.count_rules.Reads as count_rules_reads
use Rattle.sensors.proofs.count_runs.Kinds as count_runs_kinds
use Rattle.sensors.proofs.count_runs.Reads as count_runs_reads

pub items_once : OneAnswer 0 items_kinds.ps items_kinds.r items_reads.Post
items_once κs a x y s t p q = p ∙ sym q

pub tops_once : OneAnswer 0 tops_kinds.ps tops_kinds.r tops_reads.Post
tops_once κs a x y s t p q = p ∙ sym q

pub from_items_once : OneAnswer 0 from_items_kinds.ps from_items_kinds.r from_items_reads.Post
from_items_once κs a x y s t p q = p ∙ sym q

pub count_rules_once : OneAnswer 0 count_rules_kinds.ps count_rules_kinds.r count_rules_reads.Post
count_rules_once κs a x y s t p q = p ∙ sym q

pub count_runs_once : OneAnswer 0 count_runs_kinds.ps count_runs_kinds.r count_runs_reads.Post
count_runs_once κs a x y s t p q = p ∙ sym q
