-- Requests K3 and K6: what is wrong with an image that is refused, for a person: its length, its first item that is out of range, by its
-- place in the new form, or the first rule that it breaks.
-- Assumes nothing.
use Rattle.std.specs.Prelude.{ℕ, suc, ◌<◌, Bool, true, cond, ◌&&◌, List, [], ◌∷◌, Option, None, Some, MatchOption, ◌≡◌, eqb, leb, length}
use Rattle.image.specs.declared.Fault.{Fault}
use Rattle.image.specs.declared.Fault.TheVariants.{Length, Item, Rule}
use Rattle.forms.specs.Forms.{in_new_form}
use Rattle.image.specs.Xdr.{items_in}
use Rattle.image.specs.Items.{tops, within}
use Rattle.image.specs.Rules.{rules, rules_hold}
use Rattle.image.specs.Images.{size, new_items, loaded_at}

-- The place of the first item that is out of its range, counted from 0: so many stand before it. Where none is, how many there are.
unfoldable pub first_out : List ℕ → List ℕ → ℕ
first_out [] items = 0
first_out (top ∷ more) [] = 0
first_out (top ∷ more) (item ∷ items) = cond (leb item top) (suc (first_out more items)) 0

-- The place of the first rule that is broken, in the order of Rules.antt, counted likewise.
unfoldable pub first_broken : List Bool → ℕ
first_broken [] = 0
first_broken (test ∷ tests) = cond test (suc (first_broken tests)) 0

-- What is found of so many, if anything is: the one at this place. (Where there is none, the place is how many there are.)
abbrev pub IsPlace : ℕ → ℕ → Option ℕ → Type 0
IsPlace count place found = MatchOption found (place ≡ count) (λ k. (k ≡ place) × (k < count))

-- The length comes first, then the ranges, then the rules.
unfoldable pub fault_of : List ℕ → Option Fault
fault_of image =
    cond (eqb (length (in_new_form image)) size)
    (cond (within tops (new_items image))
    (cond (rules_hold (loaded_at 0 image)) None (Some (Rule (first_broken (rules (loaded_at 0 image))))))
    (Some (Item (first_out tops (new_items image)))))
    (Some Length)

-- The refusal of an image that has this fault: 10 length or range, 11 a rule broken; and 0 where nothing is wrong.
abbrev pub fault_says : Option Fault → ℕ
fault_says None = 0
fault_says (Some Length) = 10
fault_says (Some (Item k)) = 10
fault_says (Some (Rule k)) = 11

-- Every number is 0.
unfoldable pub all_zero : List ℕ → Bool
all_zero [] = true
all_zero (n ∷ ns) = eqb n 0 && all_zero ns

-- Every item is 0. (By K3 and K6 204 and 348 zero bytes are images, and they are what a write leaves that was lost.)
unfoldable pub is_blank : List ℕ → Bool
is_blank image = all_zero (items_in image)
