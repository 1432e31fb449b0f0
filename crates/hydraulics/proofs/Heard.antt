-- A vote over sensors whose channels agree: no channel was struck, so each sensor holds what its channels say, and no count runs.
-- Assumes nothing.
use Prim.Native.Nat.{ℕ, zero, suc, ◌+◌, ◌*◌}
use native.Mathlib.Omega.{arith}
use mathlib.Core.Bool.{Bool, true, false}
use mathlib.Core.List.{List, [], ◌∷◌, map}
use mathlib.Core.Path.{◌≡◌, refl, ◌∙◌, ap, ap₂, subst, subst⁻¹}
use lib.ListN.{length, get_or}
use Rattle.common.specs.Bits.{bit, is_one}
use Rattle.common.specs.Lists.{Each, each_from}
use Rattle.voter.specs.declared.Voter.{Voter}
use Rattle.voter.specs.Voting.{fresh_with}
use Rattle.voter.proofs.Laws.{three_that_agree}
use Rattle.controller.specs.Votes.{channel, votes_at, all_voted}
use Rattle.controller.specs.Samples.{agreeing}
use Rattle.hydraulics.specs.Law.{AllChannels}

-- ---- The three channels of a sensor

-- All three say this.
abbrev Say : List ℕ → ℕ → Bool → Type 0
Say bytes i value = (channel bytes (3 * i) ≡ value) × (channel bytes (3 * i + 1) ≡ value) × (channel bytes (3 * i + 2) ≡ value)

three_of : (xs : List ℕ) (i : ℕ)
    → (get_or (agreeing xs) (3 * i) 0 ≡ get_or xs i 0) × (get_or (agreeing xs) (3 * i + 1) 0 ≡ get_or xs i 0) × (get_or (agreeing xs) (3 * i + 2) 0 ≡ get_or xs i 0)
unfolding agreeing
three_of [] i = (refl, refl, refl)
three_of (x ∷ xs) zero = (refl, refl, refl)
three_of (x ∷ xs) (suc i) =
    let at = three_of xs i in
    let first : 3 * suc i ≡ suc (suc (suc (3 * i))) = omega arith in
    let second : 3 * suc i + 1 ≡ suc (suc (suc (3 * i + 1))) = omega arith in
    let third : 3 * suc i + 2 ≡ suc (suc (suc (3 * i + 2))) = omega arith in
    let all : List ℕ = x ∷ x ∷ x ∷ agreeing xs in (
      ap (λ (n : ℕ). get_or all n 0) first ∙ at.0,
      ap (λ (n : ℕ). get_or all n 0) second ∙ at.1,
      ap (λ (n : ℕ). get_or all n 0) third ∙ at.2,
    )

one_or_not : (value : Bool) → is_one (bit value) ≡ value
one_or_not true = refl
one_or_not false = refl

bit_at : (values : List Bool) (i : ℕ) → is_one (get_or (map bit values) i 0) ≡ get_or values i false
bit_at [] i = refl
bit_at (value ∷ values) zero = one_or_not value
bit_at (value ∷ values) (suc i) = bit_at values i

all_say : (values : List Bool) (i : ℕ) → Say (agreeing (map bit values)) i (get_or values i false)
all_say values i =
    let at = three_of (map bit values) i in
    (ap is_one at.0 ∙ bit_at values i, ap is_one at.1 ∙ bit_at values i, ap is_one at.2 ∙ bit_at values i)

-- ---- The vote

heard : (bytes : List ℕ) (i : ℕ) (v : Voter) (value : Bool) → AllChannels v → Say bytes i value → votes_at bytes i v ≡ fresh_with value
heard bytes i v value valid say =
    rw (say.0, say.1, say.2) (three_that_agree v valid value)

heard_from : (bytes : List ℕ) (k : ℕ) (vs : List Voter) (values : List Bool) → length vs ≡ length values → Each AllChannels vs
    → ((i : ℕ) → Say bytes (k + i) (get_or values i false))
    → each_from (votes_at bytes) k vs ≡ map fresh_with values
unfolding each_from
heard_from bytes k [] [] e valid say = refl
heard_from bytes k [] (value ∷ values) e valid say = absurd (omega arith)
heard_from bytes k (v ∷ vs) [] e valid say = absurd (omega arith)
heard_from bytes k (v ∷ vs) (value ∷ values) e valid say =
    let here : k + 0 ≡ k = omega arith in
    ap₂ (λ (w : Voter) (ws : List Voter). w ∷ ws)
    (heard bytes k v value valid.0 (subst (λ (n : ℕ). Say bytes n value) here (say 0)))
    (heard_from bytes (suc k) vs values (omega arith) valid.1
    (λ i. let there : k + suc i ≡ suc k + i = omega arith in subst (λ (n : ℕ). Say bytes n (get_or values i false)) there (say (suc i))))

-- Of all sensors.
pub all_heard : (vs : List Voter) (values : List Bool) → length vs ≡ length values → Each AllChannels vs
    → all_voted (agreeing (map bit values)) vs ≡ map fresh_with values
unfolding all_voted
all_heard vs values e valid =
    heard_from (agreeing (map bit values)) 0 vs values e valid
    (λ i. let here : 0 + i ≡ i = omega arith in
    subst⁻¹ (λ (n : ℕ). Say (agreeing (map bit values)) n (get_or values i false)) here (all_say values i))

-- .. and then no channel is struck.
pub none_struck : (values : List Bool) → Each AllChannels (map fresh_with values)
unfolding fresh_with
none_struck [] = tt
none_struck (value ∷ values) = (refl, none_struck values)
