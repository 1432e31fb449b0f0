-- Words written as words: the bytes of a text, and the texts of several fields as one.
-- Assumes nothing.
use Rattle.std.specs.Prelude.{List, [], ◌∷◌, ◌++◌, ℕ}
use Prim.Native.String.{String}
use Prim.Native.Char.{code}

-- The bytes of a text, by its characters' numbers.
abbrev pub ascii : String → List ℕ
ascii String.[] = List.[]
ascii (String.◌∷◌ c s) = List.◌∷◌ (code c) (ascii s)

-- Document 01, "The trace and its program": CSV by RFC 4180, so a comma stands between two fields.
abbrev pub comma : ℕ
comma = 44

-- A row of a trace or of the output ends in CR and LF; a line of a dump, of an image in plain words and of the wall's page in LF.
abbrev pub cr : ℕ
cr = 13

abbrev pub lf : ℕ
lf = 10

abbrev pub crlf : List ℕ
crlf = cr ∷ lf ∷ []

-- Rows, each with its CRLF.
unfoldable pub ended : List (List ℕ) → List ℕ
ended [] = []
ended (row ∷ rows) = row ++ crlf ++ ended rows

-- The fields with a comma between each two: the text that they are the fields of.
unfoldable pub joined_by_commas : List (List ℕ) → List ℕ
joined_by_commas [] = []
joined_by_commas (f ∷ []) = f
joined_by_commas (f ∷ g ∷ fs) = f ++ comma ∷ joined_by_commas (g ∷ fs)
