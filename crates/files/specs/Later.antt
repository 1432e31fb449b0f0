-- What holds between two rows of a file: of a row and the next, and of a row and any later one, over orders, doors, gears and red as they
-- are shown.
-- Assumes nothing.
use Rattle.std.specs.Prelude.{ℕ, ◌≤◌, Bool, not, ◌&&◌, List, ◌≡◌, T}
use Rattle.controller.specs.declared.State.{State}
use Rattle.controller.specs.declared.Shown.{Shown}
use Rattle.controller.specs.Lamps.{shown_of}
use Rattle.laws.specs.Reached.{Reached}
use Rattle.files.specs.Told.{Told}
use Rattle.files.specs.Stretches.{IsAnswered, elapsed_over, state_after, Stretch}

-- ---- A row and the next

-- What is said of what was shown before a row, which is what the one in front of it shows (`rows_are_linked` of proofs/Told.antt), and of
-- what it shows.
abbrev pub FromRowToRow : (Shown → Shown → Type 0) → Told → Type 0
FromRowToRow Says t = Says (shown_of t.before) (shown_of t.after)

-- An order is shown off and then on; on and then off.
abbrev pub starts : Bool → Bool → Bool
starts was is = not was && is

abbrev pub stops : Bool → Bool → Bool
stops was is = was && not is

-- None of the four starts in the row that stops its opposite.
abbrev pub NoneStartsAsItsOppositeStops : Shown → Shown → Type 0
NoneStartsAsItsOppositeStops x y =
    (T (starts x.closes y.closes) → T (stops x.opens y.opens) → ⊥) ×
    (T (starts x.opens y.opens) → T (stops x.closes y.closes) → ⊥) ×
    (T (starts x.retracts y.retracts) → T (stops x.extends y.extends) → ⊥) ×
    (T (starts x.extends y.extends) → T (stops x.retracts y.retracts) → ⊥)

-- ---- A row and a later one

-- Of every file that goes on from a reached controller, whatever the bytes of the input, from any row that is answered to any later row:
-- what is said by what has elapsed between them, and of what the two show.
abbrev pub OfLaterRows : (ℕ → Shown → Shown → Type 0) → Type 0
OfLaterRows Says =
    (state : State) →
    Reached state →
    (input : List ℕ) (first : Told) (rest : List Told) →
    Stretch state input first rest →
    (code : ℕ) →
    IsAnswered code first →
    Says (elapsed_over rest) (shown_of first.after) (shown_of (state_after first.after rest))

-- Once red: red, doors and gears where they were, the four orders off, and general_EV not started.
pub record StaysRed (x later : Shown) : Type 0 where
  pub red : T later.lights.red
  pub doors : later.doors ≡ x.doors
  pub gears : later.gears ≡ x.gears
  pub four_off : T (not later.closes) × T (not later.opens) × T (not later.retracts) × T (not later.extends)
  pub general : T later.general → T x.general

abbrev pub OnceRed : ℕ → Shown → Shown → Type 0
OnceRed elapsed x later = T x.lights.red → StaysRed x later

-- And general_EV is off once so many ms have elapsed.
abbrev pub GeneralOffIn : ℕ → ℕ → Shown → Shown → Type 0
GeneralOffIn ms elapsed x later = T x.lights.red → ms ≤ elapsed → T (not later.general)
