-- What schools ask next of request K8's rig: with the handle held it settles without red, and within which time.
-- Assumes nothing.
use Rattle.std.specs.Prelude.{ℕ, ◌+◌, ◌-◌, ◌/◌, Bool, List, [], ◌∷◌, ◌≡◌}
use Rattle.sequence.specs.Moves.{aim_of}
use Rattle.cylinder.specs.Fractions.{stroke}
use Rattle.joined.specs.declared.Rig.{Rig}
use Rattle.joined.specs.Rigs.{start_of, elapsed_at}
use Rattle.settling.specs.Settled.{is_home}
use Rattle.settling.specs.CoreRuns.{Spans}
use Rattle.hydraulics.specs.Inputs.{Input, stepped, next, after, RatesFrom, ToldFrom}

-- So many ms take a cylinder over its stroke at so many parts a ms: 16384/n, rounded up.
unfoldable pub stroke_time : ℕ → ℕ
stroke_time n = (stroke + n - 1) / n

-- How soon doors and gears are seen where an order takes them, at so many parts a ms.
abbrev pub spans_at : ℕ → ℕ → Spans
spans_at doors gears = record { doors = stroke_time doors; gears = stroke_time gears }

-- A run in which each step is accepted, has the handle so (true for down), and tells such rates.
unfoldable pub Held : ℕ → ℕ → ℕ → Bool → Rig → List Input → Type 0
Held limit doors gears down rig [] = Unit {0}
Held limit doors gears down rig (i ∷ is) =
    ((stepped limit rig i).refusal ≡ 0) × (i.down ≡ down) × RatesFrom doors gears i.givens ×
    Held limit doors gears down (next limit rig i) is

-- What has elapsed at its steps, added up.
unfoldable pub elapsed_in : ℕ → Rig → List Input → ℕ
elapsed_in limit rig [] = 0
elapsed_in limit rig (i ∷ is) = elapsed_at rig i.stamp + elapsed_in limit (next limit rig i) is

-- The doors are closed and the gears stand where the handle asks.
abbrev pub at_rest : Bool → Rig → Bool
at_rest down rig = is_home (aim_of down) rig.controller.core.place

-- From the rig after any run from its start with such rates, over every run of one step or more with the handle held: what is said by what
-- has elapsed since the first of its steps, which counts as 0 ms, and whether it is at rest after the last.
abbrev pub OfEveryHeldRun : ℕ → ℕ → ℕ → (ℕ → Bool → Type 0) → Type 0
OfEveryHeldRun limit doors gears Says =
    (stamp : ℕ) (before : List Input) →
    ToldFrom limit doors gears (start_of stamp) before →
    let rig : Rig = after limit (start_of stamp) before in
    (down : Bool) (first : Input) (rest : List Input) →
    Held limit doors gears down rig (first ∷ rest) →
    Says (elapsed_in limit (next limit rig first) rest) (at_rest down (after limit rig (first ∷ rest)))
