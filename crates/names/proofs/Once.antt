-- No second answer meets the contract of a public function of this crate: the word's bytes; of `put_all` the place behind, and the lent line.
-- Assumes nothing.
use Prim.Native.Nat.{ℕ}
use mathlib.Core.List.{List}
use mathlib.Core.Path.{◌≡◌, refl, sym, ◌∙◌}
use contract.Lifetimes.{Lfts}
use denote.Triple.Clauses.{AtExit}
use borrow.Fn.Kinds.{ParamKind, ResultKind, Dens, Out, res_t, ended_of}
use Rattle.common.specs.OneAnswer.{OneAnswerAnd}
use Rattle.names.proofs.doors_word.Kinds as doors_kinds
use Rattle.names.proofs.doors_word.Reads as doors_reads
use Rattle.names.proofs.gears_word.Kinds as gears_kinds
use Rattle.names.proofs.gears_word.Reads as gears_reads
use Rattle.names.proofs.handle_word.Kinds as handle_kinds
use Rattle.names.proofs.handle_word.Reads as handle_reads
use Rattle.names.proofs.tables.Kind.word.Kinds as word_kinds
use Rattle.names.proofs.tables.Kind.word.Reads as word_reads
use Rattle.names.proofs.tables.Kind.put_all.Kinds as put_all_kinds
use Rattle.names.proofs.tables.Kind.put_all.Reads as put_all_reads

-- Of an answer that points at a word, `word` reads its bytes: two that the contract allows for the same arguments have the same.
abbrev OneWord : (n : ℕ) (ps : List (ParamKind n)) (r : ResultKind n) → Out n ps r → ((κs : Lfts n) → (res_t r κs).Denot → List ℕ) → Type 0
OneWord n ps r Post word =
    (κs : Lfts n) (a : Dens κs ps) (x y : (res_t r κs).Denot) (s t : AtExit (ended_of n ps r) κs) →
    Post κs a x s →
    Post κs a y t →
    word κs x ≡ word κs y

pub doors_word_once : OneWord 1 doors_kinds.ps doors_kinds.r doors_reads.Post (λ κs x. x.now)
doors_word_once κs a x y s t p q = p ∙ sym q

pub gears_word_once : OneWord 1 gears_kinds.ps gears_kinds.r gears_reads.Post (λ κs x. x.now)
gears_word_once κs a x y s t p q = p ∙ sym q

pub handle_word_once : OneWord 1 handle_kinds.ps handle_kinds.r handle_reads.Post (λ κs x. x.now)
handle_word_once κs a x y s t p q = p ∙ sym q

pub word_once : OneWord 1 word_kinds.ps word_kinds.r word_reads.Post (λ κs x. x.now)
word_once κs a x y s t p q = p ∙ sym q

pub put_all_once : OneAnswerAnd 2 put_all_kinds.ps put_all_kinds.r put_all_reads.Post (ℕ × List ℕ) (λ κs s. (s.1.0.now.at, s.1.0.now.bytes.now))
put_all_once κs a x y s t p q = (refl, p.put ∙ sym q.put)
