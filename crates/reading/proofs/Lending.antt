-- What lies in what is lent, whatever was lent: a row that is whole in the line buffer, what is used in the part, and what is written in the
-- output buffer.
-- Assumes nothing.
use Prim.Native.Nat.{ℕ, ◌≤◌}
use native.Mathlib.Omega.{arith}
use mathlib.Core.Bool.{Bool}
use mathlib.Core.List.{List}
use mathlib.Core.Path.{◌≡◌, refl}
use lib.Dec.{eqb, ltb}
use lib.ListN.{length, length-append}
use Rattle.lines.specs.Cuts.{cut_of, last_of}
use Rattle.lines.specs.declared.Taken.{Taken}
use Rattle.lines.specs.declared.Taken.TheVariants.{Row, More, Over}
use Rattle.lines.specs.declared.Final.{Final}
use Rattle.lines.specs.declared.Final.TheVariants.{Nothing as NoRow, Last, Wider}
use Rattle.lines.proofs.Law.{cut_law, last_law}
use Rattle.lines.proofs.Steps.{either}
use Rattle.reading.specs.declared.Run.{Run}
use Rattle.reading.specs.Answers.{Next}
use Rattle.reading.specs.Parts.{line_bytes, Fits, piece_of, last_piece, refused, take_of, finish_of}
use Rattle.reading.specs.Runs.{Teller, Answer, calls, lent, take_by, finish_by}

-- ---- In the line buffer

pub piece_fits : (part line : List ℕ) (len : ℕ) (c : Bool) (size : ℕ) (r : Taken) (line' : List ℕ) → (r, line') ≡ cut_of part 0 line len c
    → Fits (piece_of r size).found (length line')
piece_fits part line len c size (Row used n) line' e = (cut_law part 0 line len c (Row used n) line' e).1.fits
piece_fits part line len c size (More n c') line' e = Prim.tt
piece_fits part line len c size Over line' e = Prim.tt

pub last_fits : (line : List ℕ) (len : ℕ) (c : Bool) (r : Final) (line' : List ℕ) → (r, line') ≡ last_of line len c
    → Fits (last_piece r).found (length line')
last_fits line len c NoRow line' e = Prim.tt
last_fits line len c (Last n) line' e = (last_law line len c (Last n) line' e).1.0
last_fits line len c Wider line' e = Prim.tt

-- ---- In the part

-- So much of the part is used.
cut_within : (part line : List ℕ) (len : ℕ) (c : Bool) (r : Taken) (line' : List ℕ) → (r, line') ≡ cut_of part 0 line len c
    → (piece_of r (length part)).used ≤ length part
cut_within part line len c (Row used n) line' e = (cut_law part 0 line len c (Row used n) line' e).1.inside
cut_within part line len c (More n c') line' e = omega arith
cut_within part line len c Over line' e = omega arith

pub used_within : (run : Run) (part line : List ℕ) → (take_of run part line).0.used ≤ length part
unfolding take_of refused
used_within run part line =
    either (eqb (length line) line_bytes) (λ t. rw t (cut_within part line run.len run.cr _ _ refl)) (λ t. rw t (omega arith))
