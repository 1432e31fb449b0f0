-- Position and rate of each cylinder: one turn of the loop that writes them into the lent buffer, and its end.
-- Assumes nothing.
use Rattle.std.proofs.Common.{◌≡◌, ℕ, suc, ◌+◌, ◌*◌, ◌<◌, ◌≤◌, List, [], ◌∷◌, ◌++◌, length, get_or, take, drop, set, refl, ap, add-one, arith, take-append-drop, take_all, take-suc, drop-drop, le-ltb}
use lib.Ieee.{Float}
use Rattle.cylinder.specs.declared.Cylinder.{Cylinder}
use Rattle.joined.specs.Drawn.{floats_of, floats_of_six, drawn_of}
use Rattle.joined.proofs.Storing.{stored_next, stored_rest}

floats_next : (cs : List Cylinder) (c : Cylinder) → floats_of (cs ++ c ∷ []) ≡ floats_of cs ++ c.position ∷ c.rate ∷ []
unfolding floats_of
floats_next [] c = refl
floats_next (x ∷ cs) c = ap (λ (l : List Float). x.position ∷ x.rate ∷ l) (floats_next cs c)

module _ (cs : List Cylinder) (was out : List Float) (i : ℕ) (c : Cylinder) (room : 2 * i + 2 ≤ length out) where
  one : 2 * i + 1 ≡ suc (2 * i)
  one = omega arith

  two : 2 * (i + 1) ≡ 2 * i + 2
  two = omega arith

  pub drawn_next : (d : Cylinder) → i < length cs → c ≡ get_or cs i d → take (2 * i) out ≡ floats_of (take i cs)
      → take (2 * (i + 1)) (set (set out (2 * i) c.position) (2 * i + 1) c.rate) ≡ floats_of (take (i + 1) cs)
  drawn_next d within is so_far =
      rw (
        one,
        two,
        stored_next (c.position ∷ c.rate ∷ []) out (2 * i) room,
        so_far,
        is,
        add-one i,
        take-suc cs i d within,
        floats_next (take i cs) (get_or cs i d),
      )

  pub drawn_rest : drop (2 * i) out ≡ drop (2 * i) was
      → drop (2 * (i + 1)) (set (set out (2 * i) c.position) (2 * i + 1) c.rate) ≡ drop (2 * (i + 1)) was
  drawn_rest so_far =
      rw (one, two, stored_rest (c.position ∷ c.rate ∷ []) out (2 * i) room, ← drop-drop 2 (2 * i) out, so_far, drop-drop 2 (2 * i) was)

pub drawn_all : (cs : List Cylinder) (was out : List Float) (i : ℕ) → i ≡ 6 → length cs ≡ 6 → floats_of_six ≤ length was
    → take (2 * i) out ≡ floats_of (take i cs) → drop (2 * i) out ≡ drop (2 * i) was
    → (0, out) ≡ drawn_of cs was
unfolding drawn_of
drawn_all cs was out i all six room front rest =
    let twelve : 2 * i ≡ floats_of_six = omega arith in
    let written : take floats_of_six out ≡ floats_of cs = rw (twelve, take_all i cs (omega arith)) at front in
    let kept : drop floats_of_six out ≡ drop floats_of_six was = rw twelve at rest in
    rw (le-ltb (length was) floats_of_six room, ← written, ← kept, take-append-drop floats_of_six out)
