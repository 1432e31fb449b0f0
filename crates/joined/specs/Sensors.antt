-- Request K8: the sample of a step is read from the new positions. "A position of exactly 1 is seen open or extended, exactly 0 closed or
-- retracted. Channels agree, absorbers say flight, pressure is general_EV as it stood before the step, the switch is closed from the step of a
-- handle move while less than 20,000 ms have passed since."
-- Assumes nothing.
use Rattle.std.specs.Prelude.{ℕ, Bool, false, List, [], ◌∷◌, ◌==◌, nat_lt, Option, None, Some, slice_index_or}
use Rattle.common.specs.Bits.{bit}
use Rattle.controller.specs.Samples.{agreeing}
use Rattle.cylinder.specs.declared.Cylinder.{Cylinder}
use Rattle.cylinder.specs.Fractions.{stroke}
use Rattle.cylinder.specs.Moves.{position_parts, cylinder_at}

-- ---- One cylinder

-- It stands at exactly so many parts.
abbrev pub is_at : ℕ → Option ℕ → Bool
is_at n None = false
is_at n (Some k) = k == n

unfoldable pub stands_at : ℕ → Cylinder → Bool
stands_at n c = is_at n (position_parts c.position)

-- What stands past the six.
unfoldable pub no_cylinder : Cylinder
no_cylinder = cylinder_at 0 0

-- Cylinder i is seen out: open or extended; it is seen in: closed or retracted.
unfoldable pub seen_out : List Cylinder → ℕ → ℕ
seen_out cylinders i = bit (stands_at stroke (slice_index_or cylinders i no_cylinder))

unfoldable pub seen_in : List Cylinder → ℕ → ℕ
seen_in cylinders i = bit (stands_at 0 (slice_index_or cylinders i no_cylinder))

-- ---- The switch

-- It is closed while less than so many ms have passed since the handle's last move.
abbrev pub closed_for : ℕ
closed_for = 20000

abbrev pub is_closed : ℕ → Bool
is_closed since = nat_lt since closed_for

-- ---- The sample

-- The eighteen sensors in the sample's order, by handle (down), time since its last move, pressure and the six cylinders.
unfoldable pub sensors_of : Bool → ℕ → Bool → List Cylinder → List ℕ
sensors_of down since pressure cs =
    -- handle, analogical_switch
    bit down ∷ bit (is_closed since) ∷
    -- gear_extended
    seen_out cs 3 ∷ seen_out cs 4 ∷ seen_out cs 5 ∷
    -- gear_retracted
    seen_in cs 3 ∷ seen_in cs 4 ∷ seen_in cs 5 ∷
    -- gear_shock_absorber: flight
    0 ∷ 0 ∷ 0 ∷
    -- door_closed
    seen_in cs 0 ∷ seen_in cs 1 ∷ seen_in cs 2 ∷
    -- door_open
    seen_out cs 0 ∷ seen_out cs 1 ∷ seen_out cs 2 ∷
    -- circuit_pressurized
    bit pressure ∷
    []

-- Channels agree.
unfoldable pub sample_of : Bool → ℕ → Bool → List Cylinder → List ℕ
sample_of down since pressure cs = agreeing (sensors_of down since pressure cs)
