-- Request K6, worked over the rules: an image of a fresh start there and back, and 8 against 10 against 11 against 12.
-- Assumes nothing.
use Rattle.std.specs.Prelude.{ℕ, List, [], ◌∷◌, ◌++◌, replicate}
use Prim.Native.String.{String}
use Rattle.common.specs.Case.{Case}
use Rattle.forms.specs.Forms.{old_size, new_size}
use Rattle.controller.specs.Votes.{analogical_switch, circuit_pressurized}
use Rattle.image.specs.Xdr.{bytes_of}
use Rattle.image.specs.Cases.{voter_of, odd_of, count_of, gears, with, fresh, old_fresh}
use Rattle.converting.specs.Converting.{to_new_of, to_old_of}

-- A buffer of so many bytes.
abbrev pub lent : ℕ → List ℕ
lent n = replicate n 7

-- What a conversion gives: its number, and the buffer behind it.
abbrev pub given : ℕ × List ℕ → List ℕ
given answer = answer.0 ∷ answer.1

-- Refused: the number, and the buffer as it was.
abbrev pub refused : String → ℕ × List ℕ → ℕ → ℕ → Case
refused name answer refusal room = record { name = name; gives = given answer; wanted = refusal ∷ lent room }

-- Taken: these items, and the bytes past them.
abbrev pub gets : String → ℕ × List ℕ → List ℕ → List ℕ → Case
gets name answer items past = record { name = name; gives = given answer; wanted = 0 ∷ (bytes_of items ++ past) }

-- Channel 2 of the switch was odd in one sample; and the two channels that are left of another sensor differed in two.
unfoldable pub suspected : List ℕ
suspected = with (odd_of analogical_switch) 2 (with (count_of analogical_switch) 1 fresh)

unfoldable pub doubted : List ℕ
doubted = with (voter_of circuit_pressurized) 3 (with (count_of circuit_pressurized) 2 fresh)

unfoldable pub converting_cases : List Case
converting_cases =
    gets "old to new" (to_new_of (bytes_of old_fresh) (lent new_size)) fresh [] ∷
    gets "new to old" (to_old_of (bytes_of fresh) (lent old_size)) old_fresh [] ∷
    gets "new to new, with a count" (to_new_of (bytes_of suspected) (lent 350)) suspected (7 ∷ 7 ∷ []) ∷
    gets "old to old, and the bytes past it stay" (to_old_of (bytes_of old_fresh) (lent 206)) old_fresh (7 ∷ 7 ∷ []) ∷
    -- 12: a count runs
    refused "an odd channel, count 1" (to_old_of (bytes_of suspected) (lent old_size)) 12 old_size ∷
    refused "two that differed, count 2" (to_old_of (bytes_of doubted) (lent old_size)) 12 old_size ∷
    -- 11 before 12, 10 before 11, 8 before all
    refused "a rule broken and a count" (to_old_of (bytes_of (with gears 1 suspected)) (lent old_size)) 11 old_size ∷
    refused "an odd channel of 4 and a rule broken" (to_old_of (bytes_of (with (odd_of analogical_switch) 4 (with gears 1 suspected))) (lent old_size)) 10 old_size ∷
    refused "a byte short for the old form" (to_old_of (bytes_of suspected) (lent 203)) 8 203 ∷
    refused "a byte short for the new form" (to_new_of (bytes_of old_fresh) (lent 347)) 8 347 ∷
    refused "no image, and no room" (to_new_of [] (lent 0)) 8 0 ∷
    refused "no image" (to_new_of [] (lent new_size)) 10 new_size ∷
    refused "an old image with a rule broken" (to_new_of (bytes_of (with 49 1 old_fresh)) (lent new_size)) 11 new_size ∷
    []
