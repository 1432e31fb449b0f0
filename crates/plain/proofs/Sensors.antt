-- The lines of the sensors, one after the other: what each turn of a loop adds to the text.
-- Assumes nothing.
use Prim.Native.Nat.{ℕ, zero, suc, ◌+◌, ◌<◌}
use native.Mathlib.Nat.{le_of_suc-le-suc, not-suc-le-zero, zero-add, add-zero, add-suc, suc-add}
use native.Mathlib.Numerals.{add-one}
use mathlib.Core.List.{List, [], ◌∷◌, ◌++◌, append_assoc, append-nil}
use mathlib.Core.Path.{◌≡◌, sym, ap, ◌∙◌}
use lib.ListN.{length, get_or, take}
use Rattle.voter.specs.declared.Voter.{Voter}
use Rattle.names.specs.Words.{entry, sensor_names}
use Rattle.plain.specs.Plain.{line, of_sensor, sensor_lines}

-- One sensor more.
one_more : (name i : ℕ) (vs : List Voter) (d : Voter) → i < length vs
    → sensor_lines name (take i vs) ++ line (entry sensor_names (i + name)) (of_sensor (get_or vs i d)) ≡ sensor_lines name (take (suc i) vs)
unfolding sensor_lines
one_more name i [] d h = absurd (not-suc-le-zero h)
one_more name zero (v ∷ vs) d h = ap (λ (k : ℕ). line (entry sensor_names k) (of_sensor v)) (zero-add name) ∙ sym (append-nil (line (entry sensor_names name) (of_sensor v)))
one_more name (suc i) (v ∷ vs) d h =
    let first = line (entry sensor_names name) (of_sensor v) in
    let others = sensor_lines (suc name) (take i vs) in
    let last = of_sensor (get_or vs i d) in
    append_assoc first others (line (entry sensor_names (suc i + name)) last)
    ∙ ap (λ (k : ℕ). first ++ (others ++ line (entry sensor_names k) last)) (suc-add i name ∙ sym (add-suc i name))
    ∙ ap (λ (l : List ℕ). first ++ l) (one_more (suc name) i vs d (le_of_suc-le-suc h))

-- The same, as a loop counts.
pub sensor_turn : (i : ℕ) (vs : List Voter) (d : Voter) → i < length vs
    → sensor_lines 0 (take i vs) ++ line (entry sensor_names i) (of_sensor (get_or vs i d)) ≡ sensor_lines 0 (take (i + 1) vs)
sensor_turn i vs d h =
    ap (λ (k : ℕ). sensor_lines 0 (take i vs) ++ line (entry sensor_names k) (of_sensor (get_or vs i d))) (sym (add-zero i))
    ∙ one_more 0 i vs d h
    ∙ ap (λ (k : ℕ). sensor_lines 0 (take k vs)) (sym (add-one i))
