-- How long the lines are, and that each fits the text that it is put together in.
-- Assumes nothing.
use Prim.Native.Nat.{ℕ, ◌+◌, ◌^◌, ◌<◌, ◌≤◌}
use native.Mathlib.Omega.{arith}
use mathlib.Core.Bool.{Bool, true, false, cond}
use mathlib.Core.List.{List, []}
use mathlib.Core.Path.{◌≡◌}
use lib.Dec.{eqb}
use lib.ListN.{length, length-append}
use Rattle.common.proofs.Decimals.{decimal_length}
use Rattle.words.specs.Messages.{said_text, meaning_text, hint_text, refused_text, nine_text}

-- Either of two texts.
either : (b : Bool) (x y : List ℕ) (n : ℕ) → length x ≤ n → length y ≤ n → length (cond b x y) ≤ n
either true x y n p q = p
either false x y n p q = q

pub said_length : (name what : List ℕ) → length (said_text name what) ≡ length name + length what + 3
unfolding said_text
said_length name what = simp length-append (omega arith)

meaning_fits : (refusal : ℕ) → length (meaning_text refusal) ≤ 40
unfolding meaning_text
meaning_fits refusal =
    either (eqb refusal 6) _ _ 40 (omega arith) (either (eqb refusal 7) _ _ 40 (omega arith) (omega arith))

hint_fits : (bare : Bool) → length (hint_text bare) ≤ 100
unfolding hint_text
hint_fits true = omega arith
hint_fits false = omega arith

pub refused_fits : (line refusal : ℕ) (bare : Bool) → line < 2 ^ 64 → refusal < 2 ^ 8 → length (refused_text line refusal bare) ≤ 256
unfolding refused_text
refused_fits line refusal bare l r =
    simp length-append
    (omega (
      arith,
      decimal_length 19 line (omega arith),
      decimal_length 2 refusal (omega arith),
      meaning_fits refusal,
      either (eqb line 1) (hint_text bare) [] 100 (hint_fits bare) (omega arith),
    ))

pub nine_fits : (line rows : ℕ) → line < 2 ^ 64 → rows < 2 ^ 64 → length (nine_text line rows) ≤ 128
unfolding nine_text
nine_fits line rows l r =
    simp length-append (omega (arith, decimal_length 19 line (omega arith), decimal_length 19 rows (omega arith)))
