-- The field is the number that its digits come to if they are read on from the value of those that were read, which is not too great.
-- Assumes nothing.
use Rattle.std.proofs.Common.{◌≡◌, ◌≤◌, drop}
use Rattle.trace.specs.Numbers.{greatest, digits_from, number_of}
use Rattle.trace.proofs.read_number.Given as goal

abbrev pub invariant-loop-byte : goal.invariant-loop-byte
invariant-loop-byte l = record { fits : l.value ≤ greatest; read_on : number_of l.field ≡ digits_from l.value (drop l.byte-index l.field) }
