-- Lines, counted byte by byte.
-- Assumes nothing.
use Rattle.std.proofs.Common.{◌≡◌, ℕ, ◌+◌, ◌<◌, List, [], ◌∷◌, ◌++◌, length, get_or, take, sym, refl, add-one, take-suc}
use Rattle.sheets.specs.Runs.{line_after, line_behind}

-- The line behind bytes and more of them.
pub lines_append : (front : List ℕ) (line : ℕ) (back : List ℕ) → line_behind line (front ++ back) ≡ line_behind (line_behind line front) back
unfolding line_behind
lines_append [] line back = refl
lines_append (b ∷ front) line back = lines_append front (line_after line b) back

-- One byte more.
pub one_byte_more : (front : List ℕ) (line b : ℕ) → line_behind line (front ++ b ∷ []) ≡ line_after (line_behind line front) b
unfolding line_behind
one_byte_more front line b = lines_append front line (b ∷ [])

-- The same, as a loop counts.
pub line_turn : (bytes : List ℕ) (line i : ℕ) → i < length bytes
    → line_after (line_behind line (take i bytes)) (get_or bytes i 0) ≡ line_behind line (take (i + 1) bytes)
line_turn bytes line i h =
    rw (add-one i, take-suc bytes i 0 h) (sym (one_byte_more (take i bytes) line (get_or bytes i 0)))

-- No line is behind no byte.
pub no_line : (line : ℕ) → line_behind line [] ≡ line
unfolding line_behind
no_line line = refl

pub ruleset turns = (line_turn, no_line)
