-- Words with a comma between each two: the first, and each of the rest behind a comma; and how many bytes that is.
-- Assumes nothing.
use Rattle.std.proofs.Common.{ℕ, ◌+◌, ◌<◌, ◌^◌, List, [], ◌∷◌, ◌++◌, ◌≡◌, refl, sym, ap, ◌∙◌, map, length, sum, sum_by, Bor, lit<}
use Rattle.std.proofs.lemmas.List.Sums.{sum-map}
use mathlib.Core.List.{append-nil}
use Rattle.std.specs.List.{flat_map}
use Rattle.common.specs.Ascii.{comma, joined_by_commas}
use Rattle.names.specs.declared.tables.Kind.{Kind}
use Rattle.names.specs.declared.tables.Kind.TheVariants.{Sensor, Order, Lamp, Voter, Cause}
use Rattle.names.specs.Words.{sensor_names, order_names, lamp_names, voter_words, cause_words, words_of}

-- The words behind the first, each with the comma before it.
abbrev pub behind : List (Bor (List ℕ)) → List ℕ
behind words = flat_map (λ word. comma ∷ word.now) words

pub joined_first : (first : Bor (List ℕ)) (rest : List (Bor (List ℕ))) → joined_by_commas (map (λ word. word.now) (first ∷ rest)) ≡ first.now ++ behind rest
unfolding joined_by_commas
joined_first first [] = sym (append-nil first.now)
joined_first first (next ∷ rest) = ap (λ (l : List ℕ). first.now ++ comma ∷ l) (joined_first next rest)

-- ---- The bytes of a list's words, with a comma behind each

abbrev size : List (List ℕ) → ℕ
size words = sum_by (λ word. length word + 1) words

size_of : (kind : Kind) → size (words_of kind) ≡ length (joined_by_commas (words_of kind)) + 1
unfolding joined_by_commas sensor_names order_names lamp_names voter_words cause_words
size_of Sensor = refl
size_of Order = refl
size_of Lamp = refl
size_of Voter = refl
size_of Cause = refl

few : (kind : Kind) → size (words_of kind) < 2 ^ 64
unfolding sensor_names order_names lamp_names voter_words cause_words
few Sensor = lit< tt
few Order = lit< tt
few Lamp = lit< tt
few Voter = lit< tt
few Cause = lit< tt

-- The same of the words as the code has them.
abbrev pub size_now : List (Bor (List ℕ)) → ℕ
size_now words = sum_by (λ word. length word.now + 1) words

each_size : (words : List (Bor (List ℕ))) → map (λ word. length word.now + 1) words ≡ map (λ (word : List ℕ). length word + 1) (map (λ word. word.now) words)
each_size [] = refl
each_size (word ∷ words) = ap (λ (l : List ℕ). (length word.now + 1) ∷ l) (each_size words)

as_now : (words : List (Bor (List ℕ))) → size_now words ≡ size (map (λ word. word.now) words)
as_now words = sym (sum-map _ words) ∙ ap sum (each_size words) ∙ sum-map _ (map (λ word. word.now) words)

module _ (kind : Kind) (words : List (Bor (List ℕ))) (e : map (λ word. word.now) words ≡ words_of kind) where
  pub size_fits : size_now words < 2 ^ 64
  size_fits = rw (as_now words, e) (few kind)

  pub size_joined : size_now words ≡ length (joined_by_commas (words_of kind)) + 1
  size_joined = rw (as_now words, e) (size_of kind)
