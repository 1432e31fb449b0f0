-- No second answer meets the contract of a public function of this crate: the answer, the line buffer and the output buffer.
-- Assumes nothing.
use Rattle.std.proofs.Common.{◌≡◌, ℕ, List, sym, ◌∙◌, ap}
use Rattle.std.specs.Prelude.{Result, Ok, Err}
use Rattle.refusals.specs.declared.Refusal.{Refusal}
use Rattle.refusals.proofs.Laws.{one_number, no_zero}
use Rattle.dumping.specs.declared.Waves.{Waves}
use Rattle.dumping.specs.declared.Took.{Took as Given}
use Rattle.dumping.specs.Answers.{Took, took_says}
use Rattle.common.specs.OneAnswer.{OneAnswer, OneAnswerAnd}
use Rattle.common.proofs.Pairs.{both, all_three}
use Rattle.dumping.proofs.wires.Kinds as wires_kinds
use Rattle.dumping.proofs.wires.Reads as wires_reads
use Rattle.dumping.proofs.Waves.from.Kinds as from_kinds
use Rattle.dumping.proofs.Waves.from.Reads as from_reads
use Rattle.dumping.proofs.Waves.new.Kinds as new_kinds
use Rattle.dumping.proofs.Waves.new.Reads as new_reads
use Rattle.dumping.proofs.Waves.phase.Kinds as phase_kinds
use Rattle.dumping.proofs.Waves.phase.Reads as phase_reads
use Rattle.dumping.proofs.Waves.take.Kinds as take_kinds
use Rattle.dumping.proofs.Waves.take.Reads as take_reads
use Rattle.dumping.proofs.Waves.finish.Kinds as finish_kinds
use Rattle.dumping.proofs.Waves.finish.Reads as finish_reads
use Rattle.dumping.proofs.Waves.fill.Kinds as fill_kinds
use Rattle.dumping.proofs.Waves.fill.Reads as fill_reads
use Rattle.dumping.proofs.MomentsTell.tell.Kinds as tell_kinds
use Rattle.dumping.proofs.MomentsTell.tell.Reads as tell_reads

-- Two answers that come to the same are one.
one_took : (waves : Waves) (x y : Result Given Refusal) → took_says waves x ≡ took_says waves y → x ≡ y
one_took waves (Ok x) (Ok y) e = λ i. Ok (record { waves = (e i).waves; used = (e i).used; written = (e i).written })
one_took waves (Ok x) (Err r) e = absurd (no_zero r (sym (ap (λ (t : Took). t.refusal) e)))
one_took waves (Err r) (Ok y) e = absurd (no_zero r (ap (λ (t : Took). t.refusal) e))
one_took waves (Err r) (Err s) e = ap (λ (q : Refusal). Err q) (one_number r s (ap (λ (t : Took). t.refusal) e))

pub wires_once : OneAnswer 0 wires_kinds.ps wires_kinds.r wires_reads.Post
wires_once κs a x y s t p q = p ∙ sym q

pub from_once : OneAnswer 0 from_kinds.ps from_kinds.r from_reads.Post
from_once κs a x y s t p q = p ∙ sym q

pub new_once : OneAnswer 0 new_kinds.ps new_kinds.r new_reads.Post
new_once κs a x y s t p q = p ∙ sym q

pub phase_once : OneAnswer 0 phase_kinds.ps phase_kinds.r phase_reads.Post
phase_once κs a x y s t p q = p ∙ sym q

-- Both lent buffers, as `take` leaves them: the line buffer and the output buffer.
pub take_once : OneAnswerAnd 3 take_kinds.ps take_kinds.r take_reads.Post (List ℕ × List ℕ)
    (λ κs s. (s.1.1.0.now, s.1.1.1.0.now))
take_once κs a x y s t p q = let e = all_three (p.0 ∙ sym q.0) in (one_took a.0 x y e.0, e.1)

-- And as `finish` leaves them.
pub finish_once : OneAnswerAnd 2 finish_kinds.ps finish_kinds.r finish_reads.Post (List ℕ × List ℕ)
    (λ κs s. (s.1.0.now, s.1.1.0.now))
finish_once κs a x y s t p q = let e = all_three (p.0 ∙ sym q.0) in (one_took a.0 x y e.0, e.1)

-- And as `fill` leaves them.
pub fill_once : OneAnswerAnd 3 fill_kinds.ps fill_kinds.r fill_reads.Post (List ℕ × List ℕ)
    (λ κs s. (s.1.1.0.now, s.1.1.1.0.now))
fill_once κs a x y s t p q = let e = all_three (p.0 ∙ sym q.0) in (one_took a.0 x y e.0, e.1)

pub tell_once : OneAnswerAnd 1 tell_kinds.ps tell_kinds.r tell_reads.Post (List ℕ) (λ κs s. s.1.1.1.1.0.now)
tell_once κs a x y s t p q = both (p ∙ sym q)
