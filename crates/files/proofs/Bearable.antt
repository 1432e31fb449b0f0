-- What a trace in form can bear, as a test: for computed lessons.
-- Assumes nothing.
use Prim.Native.Nat.{ℕ}
use mathlib.Core.Bool.{Bool, true, ◌&&◌}
use mathlib.Core.List.{List, [], ◌∷◌}
use lib.Dec.{T, eqb, leb, eqb→eq, leb→le}
use lib.ListN.{length}
use mir.Facts.{and_yes}
use Rattle.trace.specs.Numbers.{greatest}
use Rattle.trace.specs.Written.{AllBits}
use Rattle.controller.specs.Samples.{Row}
use Rattle.files.specs.Traces.{AllBearable}

unfoldable pub all_bits : List ℕ → Bool
all_bits [] = true
all_bits (b ∷ bs) = leb b 1 && all_bits bs

bits_tested : (bs : List ℕ) → T (all_bits bs) → AllBits bs
unfolding all_bits
bits_tested [] h = tt
bits_tested (b ∷ bs) h = let both = and_yes (leb b 1) (all_bits bs) h in (leb→le b 1 both.0, bits_tested bs both.1)

unfoldable pub all_bearable : List Row → Bool
all_bearable [] = true
all_bearable (r ∷ rs) = (leb r.0 greatest && (eqb (length r.1) 54 && all_bits r.1)) && all_bearable rs

pub bearable_tested : (rs : List Row) → T (all_bearable rs) → AllBearable rs
unfolding all_bearable
bearable_tested [] h = tt
bearable_tested (r ∷ rs) h =
    let both = and_yes (leb r.0 greatest && (eqb (length r.1) 54 && all_bits r.1)) (all_bearable rs) h in
    let one = and_yes (leb r.0 greatest) (eqb (length r.1) 54 && all_bits r.1) both.0 in
    let two = and_yes (eqb (length r.1) 54) (all_bits r.1) one.1 in
    ((leb→le r.0 greatest one.0, eqb→eq (length r.1) 54 two.0, bits_tested r.1 two.1), bearable_tested rs both.1)
