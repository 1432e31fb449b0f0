-- Request K2: values as digits, for worked cases, and one of them: what is written where nothing changes, and at the last time that there is.
-- Assumes nothing.
use Rattle.std.specs.Prelude.{ℕ, ◌+◌, Bool, cond, List, [], ◌∷◌, eqb}
use Prim.Native.String.{String}
use Rattle.common.specs.Ascii.{ascii}
use Rattle.common.specs.Case.{Case}
use Rattle.common.specs.Decimal.{digit0}
use Rattle.dump.specs.Dumps.{Moment, later_text}
use Rattle.dump.specs.SessionS.{lines_of}

-- Values as digits, with spaces between them.
unfoldable pub values_in : List ℕ → List Bool
values_in [] = []
values_in (b ∷ bs) = cond (eqb b 32) (values_in bs) (eqb b (digit0 + 1) ∷ values_in bs)

-- A moment: the five orders, the three lamps, handle and switch, the fifteen of gears and doors by threes, and the pressure.
unfoldable pub at : ℕ → String → Moment
at time digits = record { time = time; values = values_in (ascii digits) }

-- Behind a head with these values: nothing changes at 7 ms, and the first and the last wire do at the last time below 2 ^ 64.
unfoldable pub last_time : Case
last_time =
    record {
      name = "No change, and the last time";
      gives =
          later_text (values_in (ascii "00000 100 10 111 000 000 111 000 0"))
          (at 7 "00000 100 10 111 000 000 111 000 0" ∷ at 18446744073709551615 "10000 100 10 111 000 000 111 000 1" ∷ []);
      wanted = lines_of ("#18446744073709551615" ∷ "1!" ∷ "1:" ∷ []);
    }
