-- Document 01, "Ages": both sides of 60,000, worked over the rule. No output row shows an age, so no stored trace can.
-- Assumes nothing.
use Rattle.std.specs.Prelude.{List, [], ◌∷◌}
use Rattle.common.specs.Case.{Case}
use Rattle.orders.specs.Timing.{grown_age}

unfoldable pub age_cases : List Case
age_cases =
    record { name = "59,899 and 100 ms: 59,999"; gives = grown_age 100 59899 ∷ []; wanted = 59999 ∷ [] } ∷
    record { name = "59,900 and 100 ms: 60,000"; gives = grown_age 100 59900 ∷ []; wanted = 60000 ∷ [] } ∷
    record { name = "59,901 and 100 ms: 60,000"; gives = grown_age 100 59901 ∷ []; wanted = 60000 ∷ [] } ∷
    []
