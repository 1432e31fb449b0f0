-- What holds of each row of a file, whatever the bytes of the input are (document 01, "The trace and its program").
-- Assumes nothing.
use Rattle.std.specs.Prelude.{ℕ, ◌+◌, List, [], ◌∷◌, ◌⊎◌, ◌≡◌, T}
use Rattle.trace.specs.Written.{InForm}
use Rattle.sequence.specs.declared.Gears.TheVariants.{Extended}
use Rattle.controller.specs.declared.State.{State}
use Rattle.controller.specs.Answers.{Answer}
use Rattle.controller.specs.Start.{started_at}
use Rattle.controller.specs.Steps.{step_of}
use Rattle.controller.specs.Shows.{gears_of}
use Rattle.laws.specs.GroundModel.{OneMoveOrNone}
use Rattle.laws.specs.Laws.{handle_of, ground_of}
use Rattle.laws.specs.OnGround.{Stands}
use Rattle.reading.specs.declared.Came.{Came}
use Rattle.reading.specs.declared.Came.TheVariants.{Nothing, Answered, Refused}
use Rattle.common.specs.Lists.{Each}
use Rattle.files.specs.Told.{Told}

-- ---- Labels and lines

-- The header is line 1 and row 0 line 2: the label of a row that is answered tells its place in the input, and the number in front of a
-- refusal is its line.
abbrev pub NumberedBy : ℕ → Came → Type 0
NumberedBy line Nothing = Unit {0}
NumberedBy line (Answered label code) = line ≡ label + 2
NumberedBy line (Refused at refusal) = line ≡ at

abbrev pub Numbered : Told → Type 0
Numbered t = NumberedBy t.line t.came

-- ---- Codes

-- A row that is answered bears 0, 3 or 4, and row 0 bears 0; the refusal that ends the reading is 5, 6 or 7.
abbrev pub CodedBy : Came → Type 0
CodedBy Nothing = Unit {0}
CodedBy (Answered label code) = (code ≡ 0) ⊎ (¬ (label ≡ 0)) × ((code ≡ 3) ⊎ (code ≡ 4))
CodedBy (Refused at refusal) = (refusal ≡ 5) ⊎ (refusal ≡ 6) ⊎ (refusal ≡ 7)

abbrev pub Coded : Told → Type 0
Coded t = CodedBy t.came

-- ---- The controller's own answers

-- Row 0 gives the start stamp; each other row is a step of the controller with its stamp and its sample.
pub data OwnAnswer (before : State) : ℕ → ℕ → List ℕ → Answer → Type 0 where
  starts : (stamp : ℕ) (sample : List ℕ) → OwnAnswer before 0 stamp sample (record { refusal = 0; state = started_at stamp before })
  steps : (label stamp : ℕ) (sample : List ℕ) → ¬ (label ≡ 0) → OwnAnswer before label stamp sample (step_of before stamp sample)

-- A row that is answered: it is of the form, with a stamp and a sample of 54 bytes, and the code and the state that its row of the file
-- bears are the controller's own answer to these.
pub record OwnRow (t : Told) (label code : ℕ) : Type 0 where
  pub stamp : ℕ
  pub sample : List ℕ
  pub in_form : InForm t.row label stamp sample
  pub own : OwnAnswer t.before label stamp sample (record { refusal = code; state = t.after })

-- Where nothing is told, and at the refusal that ends the reading, the state stays.
abbrev pub AnsweredBy : Told → Came → Type 0
AnsweredBy t Nothing = t.after ≡ t.before
AnsweredBy t (Answered label code) = OwnRow t label code
AnsweredBy t (Refused at refusal) = t.after ≡ t.before

abbrev pub AnsweredRight : Told → Type 0
AnsweredRight t = AnsweredBy t t.came

-- ---- What a row shows

-- A law on states holds of the state that the row shows.
abbrev pub Shows : (State → Type 0) → Told → Type 0
Shows Law t = Law t.after

-- From the state before it, which the row in front of it shows, doors and gears made one move of the ground model or none, by the absorbers
-- and the handle as the row voted them.
abbrev pub OneMoveAtMost : Told → Type 0
OneMoveAtMost t = OneMoveOrNone (ground_of t.after) (handle_of t.after) t.before.core.place t.after.core.place

-- Request K7: gears that are EXTENDED in front of a row stay so, doors do not become OPENING or OPEN and retract_EV does not start, where the
-- row voted some absorber on ground.
abbrev pub StandsAt : Told → Type 0
StandsAt t = gears_of t.before ≡ Extended → T (ground_of t.after) → Stands t.before t.after

-- ---- One row for each row

-- There is nothing to tell of it.
abbrev pub Untold : Told → Type 0
Untold t = t.came ≡ Nothing

-- Behind the header: each row is answered, up to the end of the input, or to a refusal, behind which there is nothing to tell.
pub data OneForEach : List Told → Type 0 where
  at_end : (t : Told) → Untold t → OneForEach (t ∷ [])
  at_refusal : (t : Told) (ts : List Told) (at refusal : ℕ) → t.came ≡ Refused at refusal → Each Untold ts → OneForEach (t ∷ ts)
  at_row : (t : Told) (ts : List Told) (label code : ℕ) → t.came ≡ Answered label code → OneForEach ts → OneForEach (t ∷ ts)

-- The whole: "An input with no header is line 1, refusal 5"; where its first row is over 512 bytes it is the 6 of the table under "Refusal
-- numbers", which comes first. Of the header there is nothing to tell.
pub data WholeFile : List Told → Type 0 where
  no_header : (t : Told) (ts : List Told) (refusal : ℕ)
      → (refusal ≡ 5) ⊎ (refusal ≡ 6)
      → t.came ≡ Refused 1 refusal
      → Each Untold ts
      → WholeFile (t ∷ ts)
  behind_header : (t : Told) (ts : List Told) → Untold t → OneForEach ts → WholeFile (t ∷ ts)
