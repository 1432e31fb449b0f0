-- Which refusals there are: a row that is read gets 0, 3 or 4 of the controller, and a row that is not gets 5, 6 or 7 of the reader.
-- Assumes nothing.
use Rattle.std.specs.Prelude.{Option, Some, None}
use Prim.Native.Nat.{ℕ, zero, suc, ◌+◌, ◌*◌, ◌-◌}
use mathlib.Core.Bool.{Bool, true, false, cond, ◌&&◌, ◌||◌}
use mathlib.Core.List.{List, [], ◌∷◌}
use mathlib.Core.Logic.{◌⊎◌, inl, inr}
use mathlib.Core.Path.{◌≡◌, refl}
use borrow.Author.Tests.{eq-eqb, le-ltb}
use lib.Dec.{eqb, leb, ltb}
use lib.ListN.{length, get_or}
use Rattle.common.specs.Answers.{Answer as Reads, gives, refuses}
use Rattle.common.specs.Decimal.{digit0}
use Rattle.common.specs.Lists.{some}
use Rattle.trace.specs.Numbers.{is_digit, greatest, digits_from, number_of, is_bit, triple_of}
use Rattle.trace.specs.Rows.{fields_of, joined, triples_of, Parts, parts, form_of, in_turn, kept, longest_row, read_row}
use Rattle.trace.specs.Written.{AllBits, InForm}
use Rattle.controller.specs.declared.State.{State}
use Rattle.controller.specs.Stages.{elapsed_of}
use Rattle.controller.specs.Steps.{limit, some_over_one, refusal_at, refusal_of}
use Rattle.reading.specs.Rows.{no_sample}

-- What holds of both holds of either.
pub whichever : {A : Type 0} (P : A → Type 0) (t : Bool) (x y : A) → P x → P y → P (cond t x y)
whichever P true x y p q = p
whichever P false x y p q = q

-- ---- Of the reader

abbrev Five : {A : Type 0} → Reads A → Type 0
Five (gives x) = Unit {0}
Five (refuses n) = n ≡ 5

digits_five : (v : ℕ) (bs : List ℕ) → Five (digits_from v bs)
unfolding digits_from
digits_five v [] = whichever Five (leb v greatest) (gives v) (refuses 5) tt refl
digits_five v (b ∷ bs) =
    let more = v * 10 + (b - digit0) in
    whichever Five (is_digit b) (digits_from more bs) (refuses 5) (digits_five more bs) refl

number_five : (f : List ℕ) → Five (number_of f)
unfolding number_of
number_five f =
    whichever Five (eqb (length f) 0 || eqb (get_or f 0 0) digit0 && ltb 1 (length f)) (refuses 5) (digits_from 0 f) refl (digits_five 0 f)

triple_five : (f : List ℕ) → Five (triple_of f)
unfolding triple_of
triple_five f =
    whichever Five (eqb (length f) 3 && (is_bit (get_or f 0 0) && is_bit (get_or f 1 0) && is_bit (get_or f 2 0)))
    (gives ((get_or f 0 0 - digit0) ∷ (get_or f 1 0 - digit0) ∷ (get_or f 2 0 - digit0) ∷ [])) (refuses 5) tt refl

joined_five : (a b : Reads (List ℕ)) → Five a → Five b → Five (joined a b)
joined_five (gives xs) (gives ys) p q = tt
joined_five (gives xs) (refuses n) p q = q
joined_five (refuses n) b p q = p

triples_five : (n : ℕ) (fs : List (List ℕ)) → Five (triples_of n fs)
unfolding triples_of
triples_five zero [] = tt
triples_five zero (f ∷ fs) = refl
triples_five (suc n) [] = refl
triples_five (suc n) (f ∷ fs) = joined_five (triple_of f) (triples_of n fs) (triple_five f) (triples_five n fs)

parts_five : (l s : Reads ℕ) (bits : Reads (List ℕ)) → Five l → Five s → Five bits → Five (parts l s bits)
parts_five (gives l) (gives s) (gives bits) p q r = tt
parts_five (gives l) (gives s) (refuses n) p q r = r
parts_five (gives l) (refuses n) bits p q r = q
parts_five (refuses n) s bits p q r = p

form_five : (fs : List (List ℕ)) → Five (form_of fs)
unfolding form_of
form_five [] = refl
form_five (l ∷ []) = refl
form_five (l ∷ s ∷ ts) = parts_five (number_of l) (number_of s) (triples_of 18 ts) (number_five l) (number_five s) (triples_five 18 ts)

-- Of a row.
abbrev pub FiveSixSeven : Reads (ℕ × ℕ) → Type 0
FiveSixSeven (gives head) = Unit {0}
FiveSixSeven (refuses n) = (n ≡ 5) ⊎ (n ≡ 6) ⊎ (n ≡ 7)

turn_in : (form : Reads Parts) (due : Option ℕ) → Five form → FiveSixSeven (kept (in_turn form due) no_sample).0
unfolding in_turn
turn_in (refuses n) due five = inl five
turn_in (gives p) None five = inr (inr refl)
turn_in (gives p) (Some due) five =
    whichever (λ (a : Reads Parts). FiveSixSeven (kept a no_sample).0) (eqb p.label due) (gives p) (refuses 7) tt (inr (inr refl))

pub row_refusals : (row : List ℕ) (due : Option ℕ) → FiveSixSeven (read_row row due no_sample).0
unfolding read_row no_sample
row_refusals row due =
    let form = form_of (fields_of row) in
    whichever (λ (a : Reads (ℕ × ℕ) × List ℕ). FiveSixSeven a.0) (ltb longest_row (length row)) (refuses 6, no_sample)
    (kept (in_turn form due) no_sample) (inr (inl refl)) (turn_in form due (form_five (fields_of row)))

-- ---- Of the controller

abbrev pub ThreeFour : ℕ → Type 0
ThreeFour n = (n ≡ 0) ⊎ (n ≡ 3) ⊎ (n ≡ 4)

none_over : (bits : List ℕ) → AllBits bits → some (ltb 1) bits ≡ false
unfolding some
none_over [] h = refl
none_over (b ∷ bits) h = rw (le-ltb 1 b h.0) (none_over bits h.1)

pub sample_refusals : (s : State) (stamp : ℕ) {row sample : List ℕ} {label : ℕ} → InForm row label stamp sample
    → ThreeFour (refusal_of s stamp sample)
unfolding refusal_at some_over_one
sample_refusals s stamp {sample = sample} form =
    let elapsed = elapsed_of s.stamp stamp in
    rw (eq-eqb (length sample) 54 form.whole, none_over sample form.only_bits)
    (whichever ThreeFour (eqb elapsed 0) 3 (cond (ltb limit elapsed) 4 0) (inr (inl refl))
    (whichever ThreeFour (ltb limit elapsed) 4 0 (inr (inr refl)) (inl refl)))
