-- A worked case: its name, what a rule gives, and what document 01 says that it gives.
-- Assumes nothing.
use Rattle.std.specs.Prelude.{List, map, ◌≡◌, ℕ}
use Prim.Native.String.{String}

pub record Case : Type 0 where
  pub name : String
  pub gives : List ℕ
  pub wanted : List ℕ

-- Every case of a list gives what is wanted.
abbrev pub AllAsWanted : List Case → Type 0
AllAsWanted cases = map (λ (c : Case). c.gives) cases ≡ map (λ (c : Case). c.wanted) cases
