-- Items and rules of an image at their places among the names.
-- Assumes nothing.
use Prim.Native.Nat.{ℕ, zero, suc, ◌+◌, ◌-◌, ◌/◌, ◌%◌, ◌<◌, ◌≤◌}
use native.Mathlib.Omega.{arith}
use mathlib.Core.List.{List, [], ◌∷◌, ◌++◌}
use mathlib.Core.Path.{◌≡◌, refl, sym, ap, ◌∙◌}
use lib.ListN.{length, get_or-append, get_or-eq_default}
use lib.Seq.{get_or-append-add}
use Rattle.names.specs.Words.{entry, sensor_names, order_names}
use Rattle.names.proofs.Lengths.{to_longest}
use Rattle.plain.specs.Parts.{two_each, sensor_parts, four_each, sensor_items, order_items, rest_names, item_names, on_rule, rule_words}

-- ---- Two for each name

module _ (one other : List ℕ) where
  pub first_of_two : (names : List (List ℕ)) (j : ℕ) → j < length (two_each one other names) → j % 2 ≡ 0
      → entry names (j / 2) ++ one ≡ entry (two_each one other names) j
  unfolding two_each
  first_of_two [] j h e = absurd (omega arith)
  first_of_two (name ∷ names) zero h e = refl
  first_of_two (name ∷ names) (suc zero) h e = absurd (omega arith)
  first_of_two (name ∷ names) (suc (suc j)) h e =
      let half : suc (suc j) / 2 ≡ suc (j / 2) = omega arith in
      rw half (first_of_two names j (omega arith) (omega arith))

  pub second_of_two : (names : List (List ℕ)) (j : ℕ) → j < length (two_each one other names) → (j % 2 ≡ 0 → ⊥)
      → entry names (j / 2) ++ other ≡ entry (two_each one other names) j
  unfolding two_each
  second_of_two [] j h e = absurd (omega arith)
  second_of_two (name ∷ names) zero h e = absurd (e (omega arith))
  second_of_two (name ∷ names) (suc zero) h e = refl
  second_of_two (name ∷ names) (suc (suc j)) h e =
      let half : suc (suc j) / 2 ≡ suc (j / 2) = omega arith in
      rw half (second_of_two names j (omega arith) (λ even. e (omega arith)))

-- ---- Four for each name

pub of_four : (names : List (List ℕ)) (j : ℕ) → j < length (four_each names)
    → entry names (j / 4) ++ entry sensor_parts (j % 4) ≡ entry (four_each names) j
unfolding four_each
of_four [] j h = absurd (omega arith)
of_four (name ∷ names) zero h = refl
of_four (name ∷ names) (suc zero) h = refl
of_four (name ∷ names) (suc (suc zero)) h = refl
of_four (name ∷ names) (suc (suc (suc zero))) h = refl
of_four (name ∷ names) (suc (suc (suc (suc j)))) h =
    let quarter : suc (suc (suc (suc j))) / 4 ≡ suc (j / 4) = omega arith in
    let rest : suc (suc (suc (suc j))) % 4 ≡ j % 4 = omega arith in
    rw (quarter, rest) (of_four names j (omega arith))

-- ---- Items

pub sensor_items_lem : length sensor_items ≡ 72
unfolding four_each sensor_names sensor_items
sensor_items_lem = refl

pub order_items_lem : length order_items ≡ 10
unfolding two_each order_names order_items
order_items_lem = refl

pub item_length : (k : ℕ) → length (entry item_names k) ≤ 38
unfolding two_each sensor_parts four_each sensor_names order_names sensor_items order_items rest_names item_names
item_length k = to_longest item_names k

-- Behind the last stamp.
behind : (k : ℕ) → 0 < k → entry item_names k ≡ entry (sensor_items ++ (order_items ++ rest_names)) (k - 1)
unfolding item_names
behind zero h = absurd (omega arith)
behind (suc k) h = ap (entry (sensor_items ++ (order_items ++ rest_names))) (omega arith)

pub item_of_sensor : (k : ℕ) → 0 < k → k < 73 → entry sensor_items (k - 1) ≡ entry item_names k
item_of_sensor k some h = sym (behind k some ∙ get_or-append sensor_items (order_items ++ rest_names) [] (k - 1) (omega (arith, sensor_items_lem)))

-- Behind the sensors' items.
further : (k : ℕ) → 73 ≤ k → entry item_names k ≡ entry (order_items ++ rest_names) (k - 73)
further k h =
    let place : k - 1 ≡ length sensor_items + (k - 73) = omega (arith, sensor_items_lem) in
    behind k (omega arith) ∙ ap (entry (sensor_items ++ (order_items ++ rest_names))) place ∙ get_or-append-add sensor_items (order_items ++ rest_names) (k - 73) []

pub item_of_order : (k : ℕ) → 73 ≤ k → k < 83 → entry order_items (k - 73) ≡ entry item_names k
item_of_order k h less = sym (further k h ∙ get_or-append order_items rest_names [] (k - 73) (omega (arith, order_items_lem)))

pub item_of_rest : (k : ℕ) → 83 ≤ k → entry rest_names (k - 83) ≡ entry item_names k
item_of_rest k h =
    let place : k - 73 ≡ length order_items + (k - 83) = omega (arith, order_items_lem) in
    sym (further k (omega arith) ∙ ap (entry (order_items ++ rest_names)) place ∙ get_or-append-add order_items rest_names (k - 83) [])

pub past_rest : (j : ℕ) → 4 ≤ j → [] ≡ entry rest_names j
unfolding rest_names
past_rest j h = sym (get_or-eq_default rest_names [] h)

-- ---- Rules

pub rule_length : (k : ℕ) → length (entry rule_words k) ≤ 70
unfolding on_rule rule_words
rule_length k = to_longest rule_words k

pub rule_of_order : (k : ℕ) → 0 < k → k < 5 → on_rule (entry order_names k) ≡ entry rule_words k
unfolding order_names rule_words
rule_of_order zero some h = absurd (omega arith)
rule_of_order (suc zero) some h = refl
rule_of_order (suc (suc zero)) some h = refl
rule_of_order (suc (suc (suc zero))) some h = refl
rule_of_order (suc (suc (suc (suc zero)))) some h = refl
rule_of_order (suc (suc (suc (suc (suc k))))) some h = absurd (omega arith)

pub past_rules : (k : ℕ) → 10 ≤ k → [] ≡ entry rule_words k
unfolding rule_words
past_rules k h = sym (get_or-eq_default rule_words [] h)
