-- Loops that put the text of each number from 0 on.
-- Assumes nothing.
use Rattle.std.proofs.Common.{ℕ, ◌+◌, List, ◌++◌, ◌≡◌, ap}
use mathlib.Core.List.{flatten, append_assoc, append-nil}
use Rattle.common.specs.Lists.{given_from}
use Rattle.common.proofs.Given.{text_turn}
use Rattle.texts.specs.declared.Line.{Line}
use Rattle.texts.specs.Lines.{PutsIfRoom}
use Rattle.texts.proofs.Lines.{nothing, same, and}

-- The texts of the first so many numbers.
abbrev pub so_far : (ℕ → List ℕ) → ℕ → List ℕ
so_far text n = flatten (given_from text 0 n)

module _ (text : ℕ → List ℕ) where
  pub start : {line : Line} → PutsIfRoom (so_far text 0) line line
  unfolding given_from flatten
  start = nothing

  pub turn : {n : ℕ} {before between after : Line}
      → PutsIfRoom (so_far text n) before between → PutsIfRoom (text n) between after → PutsIfRoom (so_far text (n + 1)) before after
  turn {n = n} so one = same (text_turn text n) (and so one)

  pub end : {n all : ℕ} {before after : Line} → n ≡ all → PutsIfRoom (so_far text n) before after → PutsIfRoom (so_far text all) before after
  end e so = same (ap (so_far text) e) so

  pub four : so_far text 4 ≡ text 0 ++ text 1 ++ text 2 ++ text 3
  unfolding given_from flatten
  four = simp (append_assoc, append-nil)
