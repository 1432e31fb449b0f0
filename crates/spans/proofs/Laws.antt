-- The place of a byte is that of the first that passes the test of being it.
use Rattle.std.proofs.Common.{◌≡◌, ℕ, ◌-◌, ◌+◌, ◌≤◌, List, refl, ap, ◌∙◌, eqb, length, take, drop, cond, arith, length-drop, length-take}
use Rattle.std.specs.Prelude.{Option, Some, None}
use Rattle.std.specs.List.{position, position_or_len}
use Rattle.std.proofs.lemmas.Grind.{common_steps}
use Rattle.std.proofs.lemmas.List.{drop-take}
use Rattle.std.proofs.lemmas.List.Recursion.{is_position_or_len}
use Rattle.std.proofs.lemmas.List.Sums.{prefix_len-le-length}
use Rattle.spans.specs.Bytes.{slice, index_of}

-- What a search for a byte finds.
abbrev pub Place : ℕ → List ℕ → Option ℕ → Type 0
Place b s found = found ≡ position (λ x. eqb x b) s

first_such : (b : ℕ) (s : List ℕ) → index_of b s ≡ position_or_len (λ x. eqb x b) s
unfolding index_of
first_such b s = is_position_or_len (index_of b) (λ x. eqb x b) refl (λ x xs. ap (λ n. cond (eqb x b) 0 n) (omega arith)) s

pub found_at : (b i : ℕ) (s : List ℕ) → Place b s (Some i) → i ≡ index_of b s
found_at b i s e = grind (arith, common_steps, first_such b s)

pub found_nowhere : (b : ℕ) (s : List ℕ) → Place b s None → index_of b s ≡ length s
found_nowhere b s e = grind (arith, common_steps, first_such b s, prefix_len-le-length)

-- A part of a list by its length.
pub is_slice : (from to : ℕ) (s : List ℕ) → from ≤ to → slice from to s ≡ take (to - from) (drop from s)
unfolding slice
is_slice from to s h = let e : to ≡ from + (to - from) = omega arith in ap (λ n. drop from (take n s)) e ∙ drop-take from (to - from) s

pub length_slice : (from to : ℕ) (s : List ℕ) → to ≤ length s → length (slice from to s) ≡ to - from
unfolding slice
length_slice from to s h = simp (length-drop, length-take) (omega arith)
