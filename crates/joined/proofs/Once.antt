-- No second answer meets the contract of a public function of this crate; nor does a second buffer, where one is lent.
-- Assumes nothing.
use Rattle.std.proofs.Common.{◌≡◌, List, sym, ap, ◌∙◌}
use lib.Ieee.{Float}
use Rattle.refusals.proofs.Laws.{left_once, coded_once}
use Rattle.joined.specs.Answers.{Stepped, step_says}
use Rattle.common.specs.OneAnswer.{OneAnswer, OneAnswerAnd}
use Rattle.common.proofs.Pairs.{both}
use Rattle.joined.proofs.Rig.start.Kinds as start_kinds
use Rattle.joined.proofs.Rig.start.Reads as start_reads
use Rattle.joined.proofs.Rig.step.Kinds as step_kinds
use Rattle.joined.proofs.Rig.step.Reads as step_reads
use Rattle.joined.proofs.Rig.draw.Kinds as draw_kinds
use Rattle.joined.proofs.Rig.draw.Reads as draw_reads

pub start_once : OneAnswer 0 start_kinds.ps start_kinds.r start_reads.Post
start_once κs a x y s t p q = p ∙ sym q

pub step_once : OneAnswer 0 step_kinds.ps step_kinds.r step_reads.Post
step_once κs a x y s t p q =
    let same : step_says a.0 x ≡ step_says a.0 y = p ∙ sym q in
    left_once a.0 x y (ap (λ (s : Stepped). s.refusal) same) (ap (λ (s : Stepped). s.rig) same)

pub draw_once : OneAnswerAnd 1 draw_kinds.ps draw_kinds.r draw_reads.Post (List Float) (λ κs s. s.1.0.now)
draw_once κs a x y s t p q = let same = both (p ∙ sym q) in (coded_once x y same.0, same.1)
