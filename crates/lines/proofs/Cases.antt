-- Worked examples, computed from the rules: what a lone CR and a lone LF are, where a row ends, and when it is over 512 bytes.
-- Assumes nothing.
use Prim.Native.Nat.{ℕ}
use mathlib.Core.Bool.{Bool, true, false}
use mathlib.Core.List.{List, [], ◌∷◌, ◌++◌, map}
use mathlib.Core.Path.{◌≡◌, refl}
use lib.ListN.{replicate}
use Rattle.common.specs.Ascii.{cr, lf}
use Rattle.lines.specs.Rows.{before, rows_of}
use Rattle.lines.specs.Cuts.{cut_from, cut_of, last_from, last_of}
use Rattle.lines.specs.declared.Taken.{Taken}
use Rattle.lines.specs.declared.Taken.TheVariants.{Row, More, Over}
use Rattle.lines.specs.declared.Final.{Final}
use Rattle.lines.specs.declared.Final.TheVariants.{Nothing, Last, Wider}

-- The bytes `a` and `b`.
abbrev a : ℕ
a = 97

abbrev b : ℕ
b = 98

-- ---- The plain split: an input, and its rows

abbrev inputs : List (List ℕ × List (List ℕ))
inputs =
    -- An empty input.
    ([], [])
    -- Nothing follows a CRLF that ends the input, and a last row may lack it.
    ∷ (a ∷ cr ∷ lf ∷ [], (a ∷ []) ∷ [])
    ∷ (a ∷ cr ∷ lf ∷ b ∷ [], (a ∷ []) ∷ (b ∷ []) ∷ [])
    -- An empty row, at the end and elsewhere.
    ∷ (a ∷ cr ∷ lf ∷ cr ∷ lf ∷ [], (a ∷ []) ∷ [] ∷ [])
    ∷ (cr ∷ lf ∷ a ∷ [], [] ∷ (a ∷ []) ∷ [])
    -- Of CR CR LF the first CR is a byte of the row.
    ∷ (a ∷ cr ∷ cr ∷ lf ∷ b ∷ [], (a ∷ cr ∷ []) ∷ (b ∷ []) ∷ [])
    -- A lone LF, a lone CR, and a CR at the end of the input.
    ∷ (a ∷ lf ∷ b ∷ cr ∷ lf ∷ [], (a ∷ lf ∷ b ∷ []) ∷ [])
    ∷ (a ∷ cr ∷ b ∷ cr ∷ lf ∷ [], (a ∷ cr ∷ b ∷ []) ∷ [])
    ∷ (a ∷ cr ∷ [], (a ∷ cr ∷ []) ∷ [])
    ∷ []

splits : map (λ (x : List ℕ × List (List ℕ)). rows_of x.0) inputs ≡ map (λ (x : List ℕ × List (List ℕ)). x.1) inputs
unfolding rows_of before
splits = refl

-- ---- By parts, with a line of 512 bytes `a`: how many of them are the row so far, whether a CR is held, a part, the answer

abbrev line : List ℕ
line = replicate 512 a

abbrev parts : List (ℕ × Bool × List ℕ × Taken)
parts =
    -- A part that ends between CR and LF, and the next.
    (0, false, a ∷ cr ∷ [], More 1 true)
    ∷ (1, true, lf ∷ b ∷ [], Row 1 1)
    -- Of CR CR LF, cut anywhere, the first CR is a byte of the row.
    ∷ (1, false, cr ∷ cr ∷ [], More 2 true)
    ∷ (1, true, cr ∷ [], More 2 true)
    ∷ (1, true, cr ∷ lf ∷ [], Row 2 2)
    -- A lone LF, and a lone CR.
    ∷ (1, false, lf ∷ b ∷ [], More 3 false)
    ∷ (1, true, b ∷ [], More 3 false)
    -- 512 bytes and a CRLF, from nothing and as a part of their own.
    ∷ (0, false, line ++ cr ∷ lf ∷ b ∷ [], Row 514 512)
    ∷ (512, false, cr ∷ [], More 512 true)
    ∷ (512, true, lf ∷ [], Row 1 512)
    -- 513 bytes: of which the last is a byte, a CR that no LF follows, or both.
    ∷ (512, false, b ∷ [], Over)
    ∷ (512, false, cr ∷ b ∷ [], Over)
    ∷ (512, true, b ∷ [], Over)
    ∷ (511, true, b ∷ [], Over)
    ∷ (0, false, line ++ cr ∷ cr ∷ lf ∷ [], Over)
    -- Nothing in the part.
    ∷ (7, true, [], More 7 true)
    ∷ []

cuts : map (λ (x : ℕ × Bool × List ℕ × Taken). (cut_of x.2 0 line x.0 x.1).0) parts
    ≡ map (λ (x : ℕ × Bool × List ℕ × Taken). x.3) parts
unfolding cut_of cut_from
cuts = refl

-- ---- The end of the input: what is held, and the answer

abbrev ends : List (ℕ × Bool × Final)
ends =
    (0, false, Nothing)
    ∷ (1, false, Last 1)
    ∷ (512, false, Last 512)
    -- A CR at the end of the input is a byte of the row.
    ∷ (0, true, Last 1)
    ∷ (511, true, Last 512)
    ∷ (512, true, Wider)
    ∷ []

lasts : map (λ (x : ℕ × Bool × Final). (last_of line x.0 x.1).0) ends ≡ map (λ (x : ℕ × Bool × Final). x.2) ends
unfolding last_of last_from
lasts = refl

-- A row that is whole leaves the bytes behind it in the line.
stays : cut_of (b ∷ cr ∷ lf ∷ []) 0 (a ∷ a ∷ a ∷ []) 1 false ≡ (Row 3 2, a ∷ b ∷ a ∷ [])
unfolding cut_of cut_from
stays = refl
