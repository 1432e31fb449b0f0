-- Document 01, "Both sides of each threshold": P1 to P3 as request K5 changes them, and what stands beside them in the request, worked
-- over the rule.
-- Assumes nothing.
use Rattle.std.specs.Prelude.{ℕ, false, List, [], ◌∷◌, ◌++◌}
use Prim.Native.String.{String}
use Rattle.common.specs.Bits.{bit}
use Rattle.common.specs.Case.{Case}
use Rattle.voter.specs.Voting.{fresh_with, value_of}
use Rattle.voter.specs.Numbers.{number_of}
use Rattle.voter.specs.Runs.{Reading, says, heard_all}
use Rattle.voter.specs.declared.Voter.{Voter}

-- A sensor shown by its value, its channels' number, its odd channel and its count.
unfoldable pub shown : Voter → List ℕ
shown v = bit (value_of v) ∷ number_of v ∷ v.odd ∷ v.count ∷ []

-- A fresh sensor that held 0, after these readings.
unfoldable pub after_readings : String → List Reading → List ℕ → Case
after_readings name readings wanted = record { name = name; gives = shown (heard_all (fresh_with false) readings); wanted = wanted }

-- P1: 1,1,0 twice, and three times.
unfoldable pub twice : List Reading
twice = says 1 1 0 ∷ says 1 1 0 ∷ []

unfoldable pub after_p1 : List Reading
after_p1 = twice ++ says 1 1 0 ∷ []

unfoldable pub voter_cases : List Case
voter_cases =
    after_readings "P1 fresh vote 1,1,0: value 1, all valid" (says 1 1 0 ∷ []) (1 ∷ 0 ∷ 3 ∷ 1 ∷ []) ∷
    after_readings "P1 twice: value 1, all valid" twice (1 ∷ 0 ∷ 3 ∷ 2 ∷ []) ∷
    after_readings "P1 three times: value 1, channel 3 struck" after_p1 (1 ∷ 3 ∷ 0 ∷ 0 ∷ []) ∷
    after_readings "P2 then 1,0 on the others: 1 kept" (after_p1 ++ says 1 0 1 ∷ []) (1 ∷ 3 ∷ 0 ∷ 1 ∷ []) ∷
    after_readings "P2 twice: 1 kept, valid" (after_p1 ++ says 1 0 1 ∷ says 1 0 0 ∷ []) (1 ∷ 3 ∷ 0 ∷ 2 ∷ []) ∷
    after_readings "P2 three times: invalid, 1 kept" (after_p1 ++ says 1 0 1 ∷ says 1 0 0 ∷ says 1 0 0 ∷ []) (1 ∷ 4 ∷ 0 ∷ 0 ∷ []) ∷
    after_readings "P3 after P1, 1,1,1: channel 3 stays struck" (after_p1 ++ says 1 1 1 ∷ []) (1 ∷ 3 ∷ 0 ∷ 0 ∷ []) ∷
    -- beside them: three valid
    after_readings "agreement sets the count to 0" (twice ++ says 1 1 1 ∷ []) (1 ∷ 0 ∷ 0 ∷ 0 ∷ []) ∷
    after_readings "after agreement it starts again" (twice ++ says 1 1 1 ∷ says 1 1 0 ∷ []) (1 ∷ 0 ∷ 3 ∷ 1 ∷ []) ∷
    after_readings "another odd channel starts again at 1" (twice ++ says 1 0 1 ∷ []) (1 ∷ 0 ∷ 2 ∷ 1 ∷ []) ∷
    after_readings "and so does the first one after it" (twice ++ says 1 0 1 ∷ says 1 1 0 ∷ []) (1 ∷ 0 ∷ 3 ∷ 1 ∷ []) ∷
    after_readings "the value is the majority's at each" (says 1 1 0 ∷ says 0 0 1 ∷ []) (0 ∷ 0 ∷ 3 ∷ 2 ∷ []) ∷
    after_readings "and with the strike" (twice ++ says 0 0 1 ∷ []) (0 ∷ 3 ∷ 0 ∷ 0 ∷ []) ∷
    -- two valid
    after_readings "agreement of two sets the count to 0" (after_p1 ++ says 1 0 0 ∷ says 1 0 0 ∷ says 0 0 1 ∷ []) (0 ∷ 3 ∷ 0 ∷ 0 ∷ []) ∷
    after_readings "after it they start again" (after_p1 ++ says 1 0 0 ∷ says 1 0 0 ∷ says 0 0 1 ∷ says 1 0 1 ∷ []) (0 ∷ 3 ∷ 0 ∷ 1 ∷ []) ∷
    after_readings "in which way they differ makes no difference" (after_p1 ++ says 1 0 1 ∷ says 0 1 1 ∷ says 1 0 0 ∷ []) (1 ∷ 4 ∷ 0 ∷ 0 ∷ []) ∷
    []
