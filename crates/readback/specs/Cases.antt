-- Request K2 on Session S: the moments that are read of its dump.
-- Assumes nothing.
use Rattle.std.specs.Prelude.{List, [], ◌∷◌}
use Rattle.dump.specs.Dumps.{Moment}
use Rattle.dump.specs.Cases.{at}

-- The seven times at which something is written.
unfoldable pub session_moments : List Moment
session_moments =
    at 0 "00000 100 10 111 000 000 111 000 0" ∷
    at 150 "10000 100 00 111 000 000 111 000 0" ∷
    at 350 "10100 100 00 111 000 000 111 000 0" ∷
    at 400 "10000 110 00 111 000 000 000 111 0" ∷
    at 450 "10010 110 00 111 000 000 000 111 0" ∷
    at 550 "10000 010 10 000 000 000 000 111 0" ∷
    at 650 "10001 010 10 000 000 000 000 111 0" ∷
    []
