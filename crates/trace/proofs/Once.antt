-- No second answer meets a contract: of each public function, what its `ensures` says of an answer, and of what a lent buffer then holds,
-- leaves one. Each contract is an equation whose right side is made of the inputs alone.
-- Assumes nothing.
use mathlib.Core.Path.{◌≡◌, refl, ap, sym, ◌∙◌}
use Prim.Native.Nat.{ℕ}
use mathlib.Core.List.{List}
use contract.Lifetimes
use denote.Triple.Clauses
use borrow.Fn.World
use borrow.Fn.Kinds as FnKinds
use Rattle.std.specs.Prelude.{Option, Some, None, Result, Ok, Err}
use Rattle.refusals.specs.declared.Refusal.{Refusal}
use Rattle.refusals.specs.Numbers.{number_of}
use Rattle.refusals.proofs.Laws.{one_number}
use Rattle.common.specs.OneAnswer.{OneAnswer, OneAnswerAnd}
use Rattle.common.proofs.Pairs.{both}
use Rattle.trace.specs.declared.Row.{Row}
use Rattle.trace.specs.Answers.{read_says, row_says}
use Rattle.trace.specs.contracts.field
use Rattle.trace.proofs.field.Kinds as field_kinds
use Rattle.trace.proofs.field.Reads as field_reads
use Rattle.trace.proofs.read_number.Kinds as number_kinds
use Rattle.trace.proofs.read_number.Reads as number_reads
use Rattle.trace.proofs.read_triple.Kinds as triple_kinds
use Rattle.trace.proofs.read_triple.Reads as triple_reads
use Rattle.trace.proofs.read_row.Kinds as row_kinds
use Rattle.trace.proofs.read_row.Reads as row_reads
use Rattle.trace.proofs.is_header.Kinds as header_kinds
use Rattle.trace.proofs.is_header.Reads as header_reads

-- Two answers that come to the same in the document's numbers and values are one.
one_read : {A : Type 0} (x y : Option A) → read_says x ≡ read_says y → x ≡ y
one_read (Some n) (Some m) h = cc
one_read (Some n) None h = absurd (cc)
one_read None (Some m) h = absurd (cc)
one_read None None h = refl

one_row : (x y : Result Row Refusal) → row_says x ≡ row_says y → x ≡ y
one_row (Ok x) (Ok y) h =
    let e : ◌≡◌ {A = ℕ × ℕ} (x.label, x.stamp) (y.label, y.stamp) = cc in λ i. Ok (record { label = (e i).0; stamp = (e i).1 })
one_row (Ok x) (Err r) h = absurd (cc)
one_row (Err r) (Ok y) h = absurd (cc)
one_row (Err r) (Err s) h = let n : number_of r ≡ number_of s = cc in ap (λ (q : Refusal). Err q) (one_number r s n)

-- A part of the row: one place, and one list of bytes.
pub field_once : (κs : Lifetimes.Lfts 1) (a : World.ArgsD field.signature κs) (x y : World.ResD field.signature κs)
    (s t : Clauses.AtExit (FnKinds.ended_of 1 field_kinds.ps field_kinds.r) κs)
    → field_reads.Post κs a x s → field_reads.Post κs a y t → (x.ref_ptr ≡ y.ref_ptr) × (x.now ≡ y.now)
field_once κs a x y s t p q = both (p ∙ sym q)

pub read_number_once : OneAnswer 1 number_kinds.ps number_kinds.r number_reads.Post
read_number_once κs a x y s t p q = one_read x y (p ∙ sym q)

pub read_triple_once : OneAnswer 1 triple_kinds.ps triple_kinds.r triple_reads.Post
read_triple_once κs a x y s t p q = one_read x y (p ∙ sym q)

-- A row: one answer, and one content of the lent buffer.
pub read_row_once : OneAnswerAnd 2 row_kinds.ps row_kinds.r row_reads.Post (List ℕ) (λ κs s. s.1.1.0.now)
read_row_once κs a x y s t p q =
    let e = both (p ∙ sym q) in
    (one_row x y e.0, e.1)

pub is_header_once : OneAnswer 1 header_kinds.ps header_kinds.r header_reads.Post
is_header_once κs a x y s t p q = p ∙ sym q
