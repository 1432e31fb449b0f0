-- Each sensor's value three times: one turn of the loop that writes the sample.
-- Assumes nothing.
use Rattle.std.proofs.Common.{◌≡◌, ℕ, suc, ◌+◌, ◌*◌, ◌<◌, ◌≤◌, List, [], ◌∷◌, ◌++◌, length, get_or, take, set, refl, ap, add-one, arith, take-suc}
use Rattle.controller.specs.Samples.{agreeing}
use Rattle.joined.proofs.Storing.{stored_next}

agreeing_next : (values : List ℕ) (v : ℕ) → agreeing (values ++ v ∷ []) ≡ agreeing values ++ v ∷ v ∷ v ∷ []
unfolding agreeing
agreeing_next [] v = refl
agreeing_next (x ∷ values) v = ap (λ (l : List ℕ). x ∷ x ∷ x ∷ l) (agreeing_next values v)

pub channels_turn : (sensors sample : List ℕ) (i : ℕ) → i < length sensors → 3 * i + 3 ≤ length sample
    → take (3 * i) sample ≡ agreeing (take i sensors)
    → take (3 * (i + 1)) (set (set (set sample (3 * i) (get_or sensors i 0)) (3 * i + 1) (get_or sensors i 0)) (3 * i + 2) (get_or sensors i 0))
    ≡ agreeing (take (i + 1) sensors)
channels_turn sensors sample i within room so_far =
    let v : ℕ = get_or sensors i 0 in
    let one : 3 * i + 1 ≡ suc (3 * i) = omega arith in
    let two : 3 * i + 2 ≡ suc (suc (3 * i)) = omega arith in
    let three : 3 * (i + 1) ≡ 3 * i + 3 = omega arith in
    rw (
      one,
      two,
      three,
      stored_next (v ∷ v ∷ v ∷ []) sample (3 * i) room,
      so_far,
      add-one i,
      take-suc sensors i 0 within,
      agreeing_next (take i sensors) v,
    )
