-- Samples, rows of them, and what the controller makes of them one after the other: what the laws and demand 3 speak of, and what
-- worked runs are written in.
-- Assumes nothing.
use Rattle.std.specs.Prelude.{ℕ, List, [], ◌∷◌, ◌++◌, replicate}
use Rattle.common.specs.Bits.{bit}
use Rattle.sequence.specs.declared.Doors.{Doors}
use Rattle.sequence.specs.declared.Gears.{Gears}
use Rattle.controller.specs.declared.State.{State}
use Rattle.controller.specs.Answers.{Answer}
use Rattle.controller.specs.declared.Shown.{Shown}
use Rattle.controller.specs.Steps.{step_of}
use Rattle.controller.specs.Lamps.{shown_of}

-- ---- Samples

-- The bytes of sensors whose channels agree: each value three times.
unfoldable pub agreeing : List ℕ → List ℕ
agreeing [] = []
agreeing (b ∷ bs) = b ∷ b ∷ b ∷ agreeing bs

-- The sensors but handle and switch, by what the absorbers say (front, left, right), and what all three of a kind do: gears extended,
-- retracted, doors closed, open; and the pressure.
abbrev pub rest_with : List ℕ → ℕ → ℕ → ℕ → ℕ → ℕ → List ℕ
rest_with absorbers extended retracted closed opened pressurized =
    agreeing (replicate 3 extended ++ replicate 3 retracted ++ absorbers ++ replicate 3 closed ++ replicate 3 opened ++ pressurized ∷ [])

-- The absorbers say flight.
abbrev pub flight : List ℕ
flight = replicate 3 0

-- So the others in flight.
unfoldable pub rest : ℕ → ℕ → ℕ → ℕ → ℕ → List ℕ
rest extended retracted closed opened pressurized = rest_with flight extended retracted closed opened pressurized

-- A sample by handle (1 = down), switch (1 = closed), gears extended, retracted, doors closed, open, and the pressure.
unfoldable pub sees : ℕ → ℕ → ℕ → ℕ → ℕ → ℕ → ℕ → List ℕ
sees handle switch extended retracted closed opened pressurized =
    agreeing (handle ∷ switch ∷ []) ++ rest extended retracted closed opened pressurized

-- ---- Rows

-- A row: its stamp and its sample.
abbrev pub Row : Type 0
Row = ℕ × List ℕ

-- The answers to a list of rows, one after the other.
unfoldable pub answers : State → List Row → List Answer
answers s [] = []
answers s (r ∷ rs) = step_of s r.0 r.1 ∷ answers (step_of s r.0 r.1).state rs

-- The state after them.
unfoldable pub after : State → List Row → State
after s [] = s
after s (r ∷ rs) = after (step_of s r.0 r.1).state rs

-- ---- What an answer shows

-- Refusal, the five orders, doors, gears, and the lights.
abbrev pub Line : Type 0
Line = ℕ × List ℕ × Doors × Gears × List ℕ

unfoldable pub line_of : Answer → Line
line_of a =
    let s : Shown = shown_of a.state in (
      a.refusal,
      bit s.general ∷ bit s.closes ∷ bit s.opens ∷ bit s.retracts ∷ bit s.extends ∷ [],
      s.doors,
      s.gears,
      bit s.lights.green ∷ bit s.lights.orange ∷ bit s.lights.red ∷ [],
    )
