-- A byte of a text that every dump has: another byte, the last one, and one before it.
-- Assumes nothing.
use Prim.Native.Nat.{ℕ, suc, ◌+◌}
use mathlib.Core.Bool.{true, false}
use mathlib.Core.List.{List}
use mathlib.Core.Path.{◌≡◌}
use native.Mathlib.Omega.{arith}
use borrow.Author.Tests.{eq-eqb, ne_eqb}
use lib.Dec.{eqb}
use lib.ListN.{length}
use Rattle.readback.specs.declared.Place.{Place}
use Rattle.readback.specs.declared.Reader.{Reader}
use Rattle.readback.specs.Bytes.{moved, bad, has_byte, at_text}

module _ (text : List ℕ) (on : ℕ → Place) (behind : Place) (r : Reader) (at b n : ℕ) (long : length text ≡ n) where
  pub another_byte : has_byte text at b ≡ false → bad r ≡ at_text text on behind r at b
  another_byte e = simp e

  pub last_byte : has_byte text at b ≡ true → n ≡ at + 1 → moved r behind ≡ at_text text on behind r at b
  last_byte e f = let g : eqb (suc at) (length text) ≡ true = eq-eqb (suc at) (length text) (omega arith) in simp (e, g)

  pub next_byte : (next : ℕ) → has_byte text at b ≡ true → next ≡ at + 1 → ¬ (next ≡ n) → moved r (on next) ≡ at_text text on behind r at b
  next_byte next e f other =
      let g : eqb (suc at) (length text) ≡ false = ne_eqb (suc at) (length text) (λ h. other (omega (arith, h))) in
      let same : next ≡ suc at = omega arith in
      simp (e, g, same)
