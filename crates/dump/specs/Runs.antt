-- A whole dump by parts, as a program writes it: its head, and then one call for each moment.
-- Assumes nothing.
use Rattle.std.specs.Prelude.{ℕ, Bool, cond, List, [], ◌∷◌, ◌++◌, ◌≡◌, eqb, length, take}
use Rattle.dump.specs.declared.Dump.{Dump}
use Rattle.dump.specs.Answers.{Wrote}
use Rattle.dump.specs.Wires.{wires}
use Rattle.dump.specs.Dumps.{Moment}
use Rattle.dump.specs.Writes.{moment_after, next_of}

-- A call of `next`: so many ms later, these values, and the buffer that is lent.
pub record Call : Type 0 where
  pub elapsed : ℕ
  pub values : List Bool
  pub out : List ℕ

-- Each call has a value for each wire.
abbrev pub AllWires : List Call → Type 0
AllWires [] = Unit {0}
AllWires (call ∷ calls) = (length call.values ≡ wires) × AllWires calls

-- What a call answers.
abbrev pub answer : Dump → Call → Wrote × List ℕ
answer dump call = next_of dump call.elapsed call.values call.out

-- What was written: so many bytes of the buffer as the answer says.
abbrev pub wrote : Wrote × List ℕ → List ℕ
wrote a = take a.0.written a.1

-- What is written in all from here on, each call with the dump that the one before it left.
unfoldable pub written_in_all : Dump → List Call → List ℕ
written_in_all dump [] = []
written_in_all dump (call ∷ calls) = wrote (answer dump call) ++ written_in_all (answer dump call).0.dump calls

-- The moments that were taken: one for each call that was not refused, at the sum of their elapsed times.
unfoldable pub taken : Dump → List Call → List Moment
taken dump [] = []
taken dump (call ∷ calls) =
    cond (eqb (answer dump call).0.refusal 0)
    (moment_after dump call.elapsed call.values ∷ taken (answer dump call).0.dump calls)
    (taken (answer dump call).0.dump calls)
