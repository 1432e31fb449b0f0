-- What a turn of a loop adds: a byte of a part that is taken in, and a value that is shown.
-- Assumes nothing.
use Prim.Native.Nat.{ℕ, ◌+◌, ◌<◌, ◌≤◌}
use native.Mathlib.Numerals.{add-one}
use mathlib.Core.Bool.{Bool, true, false}
use mathlib.Core.List.{List, [], ◌∷◌}
use mathlib.Core.Path.{◌≡◌, sym}
use lib.ListN.{length, get_or, set, take, drop, drop_of_length-le}
use mir.Val.{bool_byte}
use lib.Seq.{drop-cons, take-suc, take-suc-set}
use Rattle.std.proofs.lemmas.List.{map-append}
use Rattle.common.specs.Bits.{bit}
use Rattle.common.proofs.Bits.{byte_is_bit}
use Rattle.readback.specs.declared.Reader.{Reader}
use Rattle.readback.specs.Bytes.{byte_of}
use Rattle.readback.specs.Reads.{is_bad, begins, refused, bits, goes_on, gives_moment, taken_from}
use Rattle.readback.proofs.Places.{was_opening}

-- ---- A byte of a part

module _ (start r : Reader) (i : ℕ) (part values : List ℕ) where
  -- The part is used up.
  pub used_up : length part ≤ i → taken_from start r i (drop i part) values ≡ (goes_on r i, values)
  unfolding taken_from
  used_up h = rw (drop_of_length-le part h)

  module _ (within : i < length part) where
    -- A byte that no dump has there.
    pub turned_bad : is_bad (byte_of r (get_or part i 0)).place ≡ true
        → taken_from start r i (drop i part) values ≡ (refused 9 i start, values)
    unfolding taken_from
    turned_bad e = rw (drop-cons part i 0 within, e)

    module _ (fine : is_bad (byte_of r (get_or part i 0)).place ≡ false) where
      -- A byte that begins the next moment.
      pub turned_moment : begins r (get_or part i 0) ≡ true
          → taken_from start r i (drop i part) values ≡ (gives_moment r.time (i + 1) (byte_of r (get_or part i 0)), bits r.values)
      unfolding taken_from
      turned_moment e = rw (drop-cons part i 0 within, fine, e, add-one i)

      -- Any other byte.
      pub turned : begins r (get_or part i 0) ≡ false
          → taken_from start r i (drop i part) values
          ≡ taken_from start (byte_of r (get_or part i 0)) (i + 1) (drop (i + 1) part) values
      unfolding taken_from
      turned e = rw (drop-cons part i 0 within, fine, e, add-one i)

pub ruleset turns = (used_up, turned_bad, turned_moment, turned, was_opening)

-- ---- A value that is shown

pub shown_turn : (values : List Bool) (out : List ℕ) (i : ℕ) → i < length values → i < length out
    → take i out ≡ bits (take i values)
    → take (i + 1) (set out i (bool_byte (get_or values i false))) ≡ bits (take (i + 1) values)
shown_turn values out i h k e =
    rw (add-one i, byte_is_bit (get_or values i false), take-suc-set out i (bit (get_or values i false)) k, take-suc values i false h, e)
    (sym (map-append bit (take i values) (get_or values i false ∷ [])))
