-- Request K4: the constant is the rule, at each entry, and it is what is read. Said of what two functions answer: `all_entries`,
-- whose answer is the constant itself, and `entry`, which `Asked::next` reads it by.
-- Assumes nothing.
use Prim.Native.Nat.{ℕ, ◌<◌}
use mathlib.Core.List.{List}
use mathlib.Core.Path.{◌≡◌, sym, ap, ◌∙◌}
use contract.Lifetimes.{Lfts}
use denote.Triple.Clauses.{AtExit}
use borrow.Fn.Kinds.{Dens, res_t, ended_of}
use Rattle.table.specs.Table.{entries, asked_at, next_of, place_at, entry_of, entry_at}
use Rattle.table.proofs.Entries.{table_is_rule}
use Rattle.table.proofs.all_entries.Kinds as all_kinds
use Rattle.table.proofs.all_entries.Reads as all_reads
use Rattle.table.proofs.entry.Kinds as entry_kinds
use Rattle.table.proofs.entry.Reads as entry_reads

module _ (κs : Lfts 0) (none : Dens κs all_kinds.ps) (rows : (res_t all_kinds.r κs).Denot) (end : AtExit (ended_of 0 all_kinds.ps all_kinds.r) κs)
    (constant : all_reads.Post κs none rows end) where
  -- At each number the constant holds the doors and gears that the rule gives to what is asked there.
  pub constant_is_rule : (n : ℕ) → n < entries → place_at (entry_of rows n) ≡ next_of (asked_at n)
  unfolding entry_at
  constant_is_rule n h = ap (λ (all : List (List ℕ)). place_at (entry_of all n)) constant ∙ table_is_rule n h

  -- What is read at a number is the constant's entry.
  pub constant_is_read : (a : Dens κs entry_kinds.ps) (entry : (res_t entry_kinds.r κs).Denot) (s : AtExit (ended_of 0 entry_kinds.ps entry_kinds.r) κs)
      → entry_reads.Post κs a entry s → entry ≡ entry_of rows a.0
  constant_is_read a entry s e = e ∙ ap (λ (all : List (List ℕ)). entry_of all a.0) (sym constant)
