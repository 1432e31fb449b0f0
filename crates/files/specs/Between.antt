-- Demand 3 of the rows of a file, from one row that accepts its sample to a later row, refused ones among them.
-- Assumes nothing.
use Rattle.std.specs.Prelude.{ℕ, ◌+◌, Bool, not, ◌&&◌, ◌||◌, List, [], ◌∷◌, ◌++◌, ◌≡◌, T}
use Rattle.sequence.specs.declared.Aim.{Aim}
use Rattle.sequence.specs.declared.Aim.TheVariants.{ToExtended}
use Rattle.sequence.specs.declared.Place.{Place}
use Rattle.sequence.specs.Moves.{place, aim_of, is_up}
use Rattle.controller.specs.declared.State.{State}
use Rattle.controller.specs.declared.Shown.{Shown}
use Rattle.controller.specs.Start.{fresh_of}
use Rattle.controller.specs.Lamps.{shown_of}
use Rattle.laws.specs.Reached.{Reached}
use Rattle.laws.specs.Laws.{ground_of}
use Rattle.settling.specs.Runs.{Absorbers, held_as}
use Rattle.settling.specs.Settled.{is_home}
use Rattle.common.specs.Lists.{Each}
use Rattle.files.specs.Told.{Told}
use Rattle.files.specs.Stretches.{IsAnswered, elapsed_over, state_after, Stretch}

-- The row accepts its sample: its code is 0, and it is not row 0, whose sample is not used.
abbrev pub Accepts : Told → Type 0
Accepts t = (row : IsAnswered 0 t) × (¬ (row.0 ≡ 0))

-- After it the voted handle says this (true for down), and request K7: with the handle up the voted absorbers say this.
abbrev pub HeldAs : Bool → Absorbers → Told → Type 0
HeldAs down these t = T (held_as down these t.after)

-- Doors and gears as a row shows them.
abbrev place_in : Shown → Place
place_in x = place x.doors x.gears

-- A row shows red, or doors CLOSED and gears at the aim; request K7: or with the handle up on ground doors CLOSED and gears EXTENDED.
abbrev pub looks_settled : Bool → Aim → Shown → Bool
looks_settled grounded aim x = x.lights.red || is_home aim (place_in x) || (grounded && is_up aim && is_home ToExtended (place_in x))

-- A row's state looks so, with the handle so (true for down).
abbrev pub row_looks_settled : Bool → State → Bool
row_looks_settled down s = looks_settled (ground_of s) (aim_of down) (shown_of s)

-- Of every file that goes on from a reached controller, whatever the bytes of the input, from any row that accepts its sample over any rows
-- behind it after which the voted handle still says the same, and with the handle up the absorbers: what is said by what has elapsed since the
-- first row, and whether the last one looks settled.
abbrev pub OfEveryFile : (ℕ → Bool → Type 0) → Type 0
OfEveryFile Says =
    (state : State) →
    Reached state →
    (input : List ℕ) (first : Told) (rest : List Told) →
    Stretch state input first rest →
    Accepts first →
    (down : Bool) (these : Absorbers) →
    Each (HeldAs down these) (first ∷ rest) →
    Says (elapsed_over rest) (row_looks_settled down (state_after first.after rest))

-- A stretch of a file of `replay` that meets all that is asked there, with handle and absorbers as it is said and so many ms elapsed at its
-- last row, which looks settled and shows no red; at the row in front of that, so many ms earlier, it does not look settled.
pub record SettlesAt (ms step : ℕ) (down : Bool) (these : Absorbers) : Type 0 where
  pub input : List ℕ
  pub first : Told
  pub rest : List Told
  pub last : Told
  pub is_stretch : Stretch (fresh_of 0) input first (rest ++ last ∷ [])
  pub accepts : Accepts first
  pub held : Each (HeldAs down these) (first ∷ (rest ++ last ∷ []))
  pub in_all : elapsed_over (rest ++ last ∷ []) ≡ ms
  pub settles : T (row_looks_settled down last.after)
  pub not_red : T (not (shown_of last.after).lights.red)
  pub earlier : elapsed_over rest + step ≡ ms
  pub not_yet : T (not (row_looks_settled down (state_after first.after rest)))
