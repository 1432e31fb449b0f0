-- The head of a dump has 1,078 bytes, and a moment at most 100.
-- Assumes nothing.
use Rattle.std.proofs.Common.{◌≡◌, ℕ, ◌+◌, ◌≤◌, Bool, List, [], ◌∷◌, length, arith, length-append}
use Rattle.dump.specs.Wires.{wires, first_code}
use Rattle.dump.specs.Dumps.{Moment, head_text, changes_from, timed, moment_text}
use Rattle.dump.proofs.Late.{at_most_twenty}
use Rattle.dump.proofs.Lines.{opening_length_lem, closing_length_lem, values_length, changes_length}

-- The head.
pub head_length : (values : List Bool) → length values ≡ wires → length (head_text values) ≡ 1078
unfolding head_text
head_length values wide =
    simp (length-append, opening_length_lem, closing_length_lem, values_length) (omega arith)

-- A time has at most 20 digits.
timed_length : (time : ℕ) (changes : List ℕ) → length (timed time changes) ≤ 22 + length changes
timed_length time [] = omega arith
timed_length time (b ∷ changes) = simp length-append (omega (arith, at_most_twenty time))

-- A moment.
pub moment_length : (before : List Bool) (m : Moment) → length m.values ≡ wires → length (moment_text before m) ≤ 100
unfolding moment_text
moment_length before m wide =
    let changes = changes_from first_code before m.values in
    omega (arith, timed_length m.time changes, changes_length first_code before m.values)
