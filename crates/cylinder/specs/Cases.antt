-- Request K8, one cylinder, worked over the rule: which floats are taken, each by its bits, and moves on both sides of the ends.
-- Assumes nothing.
use Rattle.std.specs.Prelude.{ℕ, List, [], ◌∷◌, ◌++◌, Option, None, Some, from_bits, Float}
use Prim.Native.String.{String}
use Rattle.std.specs.Float.{binary32}
use Rattle.common.specs.Answers.{Answer, gives, refuses}
use Rattle.common.specs.Case.{Case}
use Rattle.cylinder.specs.Moves.{position_parts, rate_parts, shown_parts, cylinder_at, moved}
use Rattle.cylinder.specs.declared.Drive.{Drive}
use Rattle.cylinder.specs.declared.Drive.TheVariants.{Out, In, Hold, Stuck}
use Rattle.cylinder.specs.declared.Cylinder.{Cylinder}

-- ---- Floats

-- The 32-bit float with these bits.
unfoldable pub with_bits : ℕ → Float
with_bits bits = from_bits binary32 bits

-- Shown by 1 and its parts where it is taken, and by 0 where it is not.
unfoldable pub parts_shown : Option ℕ → List ℕ
parts_shown None = 0 ∷ []
parts_shown (Some n) = 1 ∷ n ∷ []

unfoldable pub as_position : String → ℕ → List ℕ → Case
as_position name bits wanted = record { name = name; gives = parts_shown (position_parts (with_bits bits)); wanted = wanted }

unfoldable pub as_rate : String → ℕ → List ℕ → Case
as_rate name bits wanted = record { name = name; gives = parts_shown (rate_parts (with_bits bits)); wanted = wanted }

unfoldable pub taken_cases : List Case
taken_cases =
    as_position "0 is a position" 0 (1 ∷ 0 ∷ []) ∷
    as_position "1/16384 is" 0x3880_0000 (1 ∷ 1 ∷ []) ∷
    as_position "1/2 is" 0x3f00_0000 (1 ∷ 8192 ∷ []) ∷
    as_position "16383/16384 is" 0x3f7f_fc00 (1 ∷ 16383 ∷ []) ∷
    as_position "1 is" 0x3f80_0000 (1 ∷ 16384 ∷ []) ∷
    as_rate "1/16384 is a rate" 0x3880_0000 (1 ∷ 1 ∷ []) ∷
    as_rate "3/16384 is" 0x3940_0000 (1 ∷ 3 ∷ []) ∷
    as_rate "16/16384 is" 0x3a80_0000 (1 ∷ 16 ∷ []) ∷
    []

unfoldable pub refused_cases : List Case
refused_cases =
    as_position "minus zero is no position" 0x8000_0000 (0 ∷ []) ∷
    as_rate "nor a rate" 0x8000_0000 (0 ∷ []) ∷
    as_rate "0 is no rate" 0 (0 ∷ []) ∷
    as_rate "17/16384 is no rate" 0x3a88_0000 (0 ∷ []) ∷
    as_rate "3/16384 less one ulp" 0x393f_ffff (0 ∷ []) ∷
    as_rate "and one ulp more" 0x3940_0001 (0 ∷ []) ∷
    as_position "half a 16384th" 0x3800_0000 (0 ∷ []) ∷
    as_position "the least subnormal" 1 (0 ∷ []) ∷
    as_position "1 and one ulp" 0x3f80_0001 (0 ∷ []) ∷
    as_position "16385/16384" 0x3f80_0200 (0 ∷ []) ∷
    as_position "-1/16384 as a position" 0xb880_0000 (0 ∷ []) ∷
    as_rate "and as a rate" 0xb880_0000 (0 ∷ []) ∷
    as_position "infinity" 0x7f80_0000 (0 ∷ []) ∷
    as_position "minus infinity" 0xff80_0000 (0 ∷ []) ∷
    as_position "a NaN as a position" 0x7fc0_0000 (0 ∷ []) ∷
    as_rate "and as a rate" 0x7fc0_0000 (0 ∷ []) ∷
    []

-- ---- Moves

-- The parts of what is handed out, or the number of the refusal.
unfoldable pub answer_shown : Answer Cylinder → List ℕ
answer_shown (gives c) = parts_shown (position_parts c.position) ++ parts_shown (shown_parts c.rate)
answer_shown (refuses n) = n ∷ []

-- A cylinder that is handed in, by the bits of its floats.
unfoldable pub handed_in : ℕ → ℕ → Cylinder
handed_in position rate = record { position = with_bits position; rate = with_bits rate }

unfoldable pub after : String → Cylinder → Drive → ℕ → List ℕ → Case
after name c drive elapsed wanted = record { name = name; gives = answer_shown (moved c drive elapsed); wanted = wanted }

-- So many 16384ths a ms.
unfoldable pub at_four : Float
at_four = with_bits 0x3980_0000

unfoldable pub at_sixteen : Float
at_sixteen = with_bits 0x3a80_0000

unfoldable pub move_cases : List Case
move_cases =
    after "out: 15,983 and 4 times 100" (cylinder_at 15983 0) (Out at_four) 100 (1 ∷ 16383 ∷ 1 ∷ 4 ∷ []) ∷
    after "15,984: just at 1" (cylinder_at 15984 0) (Out at_four) 100 (1 ∷ 16384 ∷ 1 ∷ 4 ∷ []) ∷
    after "16,000: it stops at 1, and shows its rate" (cylinder_at 16000 4) (Out at_four) 100 (1 ∷ 16384 ∷ 1 ∷ 4 ∷ []) ∷
    after "in: 401 less 4 times 100" (cylinder_at 401 0) (In at_four) 100 (1 ∷ 1 ∷ 1 ∷ 4 ∷ []) ∷
    after "400: just at 0" (cylinder_at 400 0) (In at_four) 100 (1 ∷ 0 ∷ 1 ∷ 4 ∷ []) ∷
    after "399: it stops at 0" (cylinder_at 399 0) (In at_four) 100 (1 ∷ 0 ∷ 1 ∷ 4 ∷ []) ∷
    after "no time elapsed" (cylinder_at 399 16) (Out at_four) 0 (1 ∷ 399 ∷ 1 ∷ 4 ∷ []) ∷
    after "hold: it stays, and shows 0" (cylinder_at 399 16) Hold 100 (1 ∷ 399 ∷ 1 ∷ 0 ∷ []) ∷
    after "stuck at 1/2, whatever elapsed" (cylinder_at 399 16) (Stuck (with_bits 0x3f00_0000)) 0 (1 ∷ 8192 ∷ 1 ∷ 0 ∷ []) ∷
    after "out for 4,294,967,295 ms" (cylinder_at 0 0) (Out at_sixteen) 4294967295 (1 ∷ 16384 ∷ 1 ∷ 16 ∷ []) ∷
    after "in for 4,294,967,295 ms" (cylinder_at 16384 0) (In at_sixteen) 4294967295 (1 ∷ 0 ∷ 1 ∷ 16 ∷ []) ∷
    after "told a rate of 0" (cylinder_at 399 0) (Out (with_bits 0)) 100 (13 ∷ []) ∷
    after "stuck at minus zero" (cylinder_at 399 0) (Stuck (with_bits 0x8000_0000)) 100 (13 ∷ []) ∷
    after "a cylinder handed in at minus zero" (handed_in 0x8000_0000 0) Hold 100 (13 ∷ []) ∷
    after "at 1 and one ulp" (handed_in 0x3f80_0001 0) Hold 100 (13 ∷ []) ∷
    after "that shows 17/16384" (handed_in 0 0x3a88_0000) Hold 100 (13 ∷ []) ∷
    after "that shows minus zero" (handed_in 0 0x8000_0000) Hold 100 (13 ∷ []) ∷
    []

unfoldable pub cylinder_cases : List Case
cylinder_cases = taken_cases ++ refused_cases ++ move_cases
