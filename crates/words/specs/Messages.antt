-- What the programs say to a person on standard error: one line, with the program's name in front.
-- Assumes nothing.
use Rattle.std.specs.Prelude.{ℕ, Bool, cond, List, [], ◌∷◌, ◌++◌, eqb, leb, length}
use Rattle.common.specs.Ascii.{ascii, lf}
use Rattle.common.specs.Decimal.{decimal}
use Rattle.common.specs.Lists.{some}

-- A line: the name, what there is to say, and its end.
unfoldable pub said_text : List ℕ → List ℕ → List ℕ
said_text name what = name ++ ascii ": " ++ what ++ lf ∷ []

-- Such a line is written at once where it has at most so many bytes; a longer one piece by piece.
abbrev pub at_once : ℕ
at_once = 8192

unfoldable pub is_at_once : List ℕ → List ℕ → Bool
is_at_once name what = leb (length (said_text name what)) at_once

-- A bare LF stands in a row.
unfoldable pub has_lf : List ℕ → Bool
has_lf row = some (λ byte. eqb byte lf) row

-- What a refusal of a row means (document 01, "Refusal numbers").
unfoldable pub meaning_text : ℕ → List ℕ
meaning_text refusal =
    cond (eqb refusal 6) (ascii ": the row is over 512 bytes")
    (cond (eqb refusal 7) (ascii ": the label is not the one due")
    (ascii ": the row breaks the form of a trace"))

-- What there is to say besides of line 1, by its bytes as the line buffer holds them.
unfoldable pub hint_text : Bool → List ℕ
hint_text bare =
    ascii "; a trace begins with its header" ++ cond bare (ascii ", and its rows end in CRLF: here a bare LF was seen") []

-- The refusal that ended the reading of a trace: its line, its number and what it means.
unfoldable pub refused_text : ℕ → ℕ → Bool → List ℕ
refused_text line refusal bare =
    (ascii "line " ++ decimal line ++ ascii ", refusal " ++ decimal refusal)
    ++ meaning_text refusal
    ++ cond (eqb line 1) (hint_text bare) []

-- Refusal 9 of a dump: its line, and how many rows were written before it.
unfoldable pub nine_text : ℕ → ℕ → List ℕ
nine_text line rows =
    ascii "line " ++ decimal line ++ ascii ", refusal 9: this is no dump that waves writes; " ++ decimal rows ++ ascii " rows written stand"
