-- No second answer meets the contract of a public function of this crate: the answer and the lent line.
-- Assumes nothing.
use Prim.Native.Nat.{ℕ}
use mathlib.Core.List.{List}
use mathlib.Core.Path.{◌≡◌, refl, sym, ◌∙◌}
use contract.Lifetimes
use denote.Triple.Clauses
use borrow.Fn.World
use borrow.Fn.Kinds as FnKinds
use Rattle.texts.specs.contracts.Line.text as line_text
use Rattle.common.specs.OneAnswer.{OneAnswer, OneAnswerAnd}
use Rattle.common.proofs.Pairs.{both}
use Rattle.texts.proofs.on_off.Kinds as on_off_kinds
use Rattle.texts.proofs.on_off.Reads as on_off_reads
use Rattle.texts.proofs.put.Kinds as put_kinds
use Rattle.texts.proofs.put.Reads as put_reads
use Rattle.texts.proofs.put_number.Kinds as number_kinds
use Rattle.texts.proofs.put_number.Reads as number_reads
use Rattle.texts.proofs.Line.new.Kinds as line_new_kinds
use Rattle.texts.proofs.Line.new.Reads as line_new_reads
use Rattle.texts.proofs.Line.put.Kinds as line_put_kinds
use Rattle.texts.proofs.Line.put.Reads as line_put_reads
use Rattle.texts.proofs.Line.put_number.Kinds as line_put_number_kinds
use Rattle.texts.proofs.Line.put_number.Reads as line_put_number_reads
use Rattle.texts.proofs.Line.has_room.Kinds as line_has_room_kinds
use Rattle.texts.proofs.Line.has_room.Reads as line_has_room_reads
use Rattle.texts.proofs.Line.text.Kinds as line_text_kinds
use Rattle.texts.proofs.Line.text.Reads as line_text_reads

pub on_off_once : OneAnswer 0 on_off_kinds.ps on_off_kinds.r on_off_reads.Post
on_off_once κs a x y s t p q = p ∙ sym q

pub put_once : OneAnswerAnd 2 put_kinds.ps put_kinds.r put_reads.Post (List ℕ) (λ κs s. s.0.now)
put_once κs a x y s t p q = both (p ∙ sym q)

pub put_number_once : OneAnswerAnd 1 number_kinds.ps number_kinds.r number_reads.Post (List ℕ) (λ κs s. s.0.now)
put_number_once κs a x y s t p q = both (p ∙ sym q)

pub line_new_once : OneAnswer 1 line_new_kinds.ps line_new_kinds.r line_new_reads.Post
line_new_once κs a x y s t p q = p ∙ sym q

pub line_put_once : OneAnswerAnd 3 line_put_kinds.ps line_put_kinds.r line_put_reads.Post (ℕ × List ℕ) (λ κs s. (s.0.now.at, s.0.now.bytes.now))
line_put_once κs a x y s t p q = (refl, p.put ∙ sym q.put)

pub line_put_number_once : OneAnswerAnd 2 line_put_number_kinds.ps line_put_number_kinds.r line_put_number_reads.Post (ℕ × List ℕ) (λ κs s. (s.0.now.at, s.0.now.bytes.now))
line_put_number_once κs a x y s t p q = (refl, p.put ∙ sym q.put)

pub line_has_room_once : OneAnswer 2 line_has_room_kinds.ps line_has_room_kinds.r line_has_room_reads.Post
line_has_room_once κs a x y s t p q = p ∙ sym q

pub line_text_once : (κs : Lifetimes.Lfts 2) (a : World.ArgsD line_text.signature κs) (x y : World.ResD line_text.signature κs)
    (s t : Clauses.AtExit (FnKinds.ended_of 2 line_text_kinds.ps line_text_kinds.r) κs)
    → line_text_reads.Post κs a x s → line_text_reads.Post κs a y t → x.now ≡ y.now
line_text_once κs a x y s t p q = p ∙ sym q
