-- Document 01, "Refusal numbers", 1 to 8, and those of requests K2 (9), K3 (10, 11), K6 (12) and K8 (13).
-- Assumes nothing.
use Rattle.std.specs.Prelude.{ℕ}
use Rattle.refusals.specs.declared.Refusal.{Refusal}
use Rattle.refusals.specs.declared.Refusal.TheVariants.{SampleLength, ByteOverOne, NoneElapsed, LimitElapsed, Form, RowLength, Label, Room, Dump, Range, Rule, OldForm, Fraction}

-- The number of each.
abbrev pub number_of : Refusal → ℕ
number_of SampleLength = 1
number_of ByteOverOne = 2
number_of NoneElapsed = 3
number_of LimitElapsed = 4
number_of Form = 5
number_of RowLength = 6
number_of Label = 7
number_of Room = 8
number_of Dump = 9
number_of Range = 10
number_of Rule = 11
number_of OldForm = 12
number_of Fraction = 13
