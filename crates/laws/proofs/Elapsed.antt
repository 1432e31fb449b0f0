-- Elapsed is the one number below 2^32 that leads from the last stamp to this one, modulo 2^32.
-- Assumes nothing.
use mathlib.Core.Path.{◌≡◌}
use Prim.Native.Nat.{ℕ, ◌<◌, ◌^◌}
use native.Mathlib.Omega.{arith}
use Rattle.controller.specs.Stages.{elapsed_of}
use Rattle.laws.specs.Elapsed.{Leads}

-- It leads there, for any two stamps of 32 bits ..
pub elapsed_leads : (last stamp : ℕ) → last < 2 ^ 32 → stamp < 2 ^ 32 → Leads last stamp (elapsed_of last stamp)
unfolding elapsed_of
elapsed_leads last stamp l s = omega arith

-- .. and no other does.
pub elapsed_is_the_one : (last stamp ms : ℕ) → last < 2 ^ 32 → stamp < 2 ^ 32 → Leads last stamp ms → ms ≡ elapsed_of last stamp
unfolding elapsed_of
elapsed_is_the_one last stamp ms l s leads = omega arith
