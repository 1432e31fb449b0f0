-- Request K1, "the published case reads them from the sensors": what green and orange show for what is voted, gear by gear and
-- door by door.
-- Assumes nothing.
use Rattle.std.specs.Prelude.{ℕ, false, List, [], ◌∷◌, ◌++◌, map, replicate, ◌==◌}
use Prim.Native.String.{String}
use Rattle.common.specs.Ascii.{ascii}
use Rattle.common.specs.Bits.{bit}
use Rattle.common.specs.Case.{Case}
use Rattle.voter.specs.declared.Voter.{Voter}
use Rattle.voter.specs.Voting.{fresh_with}
use Rattle.controller.specs.Lamps.{green_of, orange_of}

-- Sensors that hold the values that a text says, `1` for 1.
abbrev pub saying : String → List Voter
saying text = map (λ (c : ℕ). fresh_with (c == 49)) (ascii text)

-- Sensors that hold 0.
abbrev pub silent : ℕ → List Voter
silent n = replicate n (fresh_with false)

-- The eighteen sensors by what the lamps look at, each as front, left, right: gear_extended, gear_retracted, door_closed.
abbrev pub seeing : String → String → String → List Voter
seeing extended retracted closed = silent 2 ++ saying extended ++ saying retracted ++ silent 3 ++ saying closed ++ silent 4

-- What is voted for gear_extended, gear_retracted, door_closed; and the lamps, green and orange.
unfoldable pub lamps_at : String → String → String → String → List ℕ → Case
lamps_at name extended retracted closed lamps =
    record {
      name = name;
      gives = bit (green_of (seeing extended retracted closed)) ∷ bit (orange_of (seeing extended retracted closed)) ∷ [];
      wanted = lamps;
    }

-- Every picture of the two lamps, and each gear and each door by itself.
unfoldable pub lamp_cases : List Case
lamp_cases =
    lamps_at "down and closed: green" "111" "000" "111" (1 ∷ 0 ∷ []) ∷
    lamps_at "up and closed: no lamp" "000" "111" "111" (0 ∷ 0 ∷ []) ∷
    lamps_at "down, front door not closed: both lamps" "111" "000" "011" (1 ∷ 1 ∷ []) ∷
    lamps_at "down, left door not closed: both lamps" "111" "000" "101" (1 ∷ 1 ∷ []) ∷
    lamps_at "down, right door not closed: both lamps" "111" "000" "110" (1 ∷ 1 ∷ []) ∷
    lamps_at "up, no door closed: orange" "000" "111" "000" (0 ∷ 1 ∷ []) ∷
    lamps_at "front gear between, others down: orange" "011" "000" "111" (0 ∷ 1 ∷ []) ∷
    lamps_at "left gear between, others down: orange" "101" "000" "111" (0 ∷ 1 ∷ []) ∷
    lamps_at "right gear between, others down: orange" "110" "000" "111" (0 ∷ 1 ∷ []) ∷
    lamps_at "front gear between, others up: orange" "000" "011" "111" (0 ∷ 1 ∷ []) ∷
    lamps_at "left gear between, others up: orange" "000" "101" "111" (0 ∷ 1 ∷ []) ∷
    lamps_at "right gear between, others up: orange" "000" "110" "111" (0 ∷ 1 ∷ []) ∷
    lamps_at "front gear up, others down: no lamp" "011" "100" "111" (0 ∷ 0 ∷ []) ∷
    lamps_at "right gear down, others up: no lamp" "001" "110" "111" (0 ∷ 0 ∷ []) ∷
    lamps_at "each gear both down and up: green" "111" "111" "111" (1 ∷ 0 ∷ []) ∷
    lamps_at "nothing voted 1: orange" "000" "000" "000" (0 ∷ 1 ∷ []) ∷
    []
