-- What it means that a contract determines its answer, over the claim that Rattle makes of a function's `ensures` (its `Post`).
-- Assumes nothing.
use Rattle.std.specs.Prelude.{ℕ, List, ◌≡◌}
use contract.Lifetimes.{Lfts}
use denote.Triple.Clauses.{AtExit}
use borrow.Fn.Kinds.{ParamKind, ResultKind, Dens, Out, res_t, ended_of}

-- No second answer meets the contract: two results that it allows for the same arguments are the same.
abbrev pub OneAnswer : (n : ℕ) (ps : List (ParamKind n)) (r : ResultKind n) → Out n ps r → Type 0
OneAnswer n ps r Post =
    (κs : Lfts n) (a : Dens κs ps) (x y : (res_t r κs).Denot) (s t : AtExit (ended_of n ps r) κs) →
    Post κs a x s →
    Post κs a y t →
    x ≡ y

-- The same with a lent buffer, which `buffer` reads off the parameters at exit: the result and the buffer are the same.
abbrev pub OneAnswerAnd : (n : ℕ) (ps : List (ParamKind n)) (r : ResultKind n) → Out n ps r → (B : Type 0) → ((κs : Lfts n) → AtExit (ended_of n ps r) κs → B) → Type 0
OneAnswerAnd n ps r Post B buffer =
    (κs : Lfts n) (a : Dens κs ps) (x y : (res_t r κs).Denot) (s t : AtExit (ended_of n ps r) κs) →
    Post κs a x s →
    Post κs a y t →
    (x ≡ y) × (buffer κs s ≡ buffer κs t)
