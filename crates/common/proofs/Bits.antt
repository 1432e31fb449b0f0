-- A truth value as a number and back, and as the machine holds it.
-- Assumes nothing.
use Rattle.std.proofs.Common.{◌≡◌, ℕ, zero, suc, ◌≤◌, Bool, true, false, refl, arith}
use lib.Dec.{lit≤}
use mir.Val.{bool_byte}
use Rattle.common.specs.Bits.{bit, is_one}

pub one_of_bit : (b : Bool) → is_one (bit b) ≡ b
one_of_bit true = refl
one_of_bit false = refl

pub bit_of_one : (n : ℕ) → n ≤ 1 → bit (is_one n) ≡ n
bit_of_one zero h = refl
bit_of_one (suc zero) h = refl
bit_of_one (suc (suc n)) h = absurd (omega arith)

pub bit_to_1 : (b : Bool) → bit b ≤ 1
bit_to_1 true = lit≤ tt
bit_to_1 false = lit≤ tt

-- As the machine holds it.
pub byte_is_bit : (b : Bool) → bool_byte b ≡ bit b
byte_is_bit true = refl
byte_is_bit false = refl

pub byte_to_1 : (b : Bool) → bool_byte b ≤ 1
byte_to_1 true = lit≤ tt
byte_to_1 false = lit≤ tt
