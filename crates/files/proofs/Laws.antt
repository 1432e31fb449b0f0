-- Every row of a file shows a reached state, where the controller that it goes on from is reached: so each law of document 01 holds of each
-- row of a file, whatever the bytes of the input are.
-- Assumes nothing.
use Prim.Native.Nat.{ℕ, ◌+◌}
use mathlib.Core.List.{List, [], ◌∷◌}
use mathlib.Core.Path.{◌≡◌, refl, sym, ap, subst, ◌∙◌}
use lib.Dec.{T}
use Rattle.lines.specs.Rows.{rows_of}
use Rattle.sequence.specs.declared.Gears.TheVariants.{Extended}
use Rattle.controller.specs.declared.Core.{Core}
use Rattle.controller.specs.declared.State.{State}
use Rattle.controller.specs.Answers.{Answer}
use Rattle.controller.specs.Start.{started_at}
use Rattle.controller.specs.Steps.{step_of}
use Rattle.controller.specs.Shows.{gears_of}
use Rattle.controller.specs.Lamps.{shown_of}
use Rattle.laws.specs.Reached.{Reached}
use Rattle.laws.specs.Reached.Reached.{started, step}
use Rattle.laws.specs.Laws.{Always, handle_of, ground_of}
use Rattle.laws.specs.GroundModel.{OneMoveOrNone}
use Rattle.laws.specs.GroundModel.OneMoveOrNone.{no_move}
use Rattle.laws.specs.OnGround.{Stands}
use Rattle.laws.proofs.Ground.{follows_the_ground_model}
use Rattle.laws.proofs.OnGround.{stands_on_its_wheels}
use Rattle.laws.proofs.Safety.{
  opposites_never_together,
  none_of_the_four_without_general,
  gear_orders_only_with_doors_open,
  door_orders_only_with_gears_at_rest,
}
use Rattle.reading.specs.declared.Reading.{Reading}
use Rattle.reading.specs.declared.Came.{Came}
use Rattle.reading.specs.declared.Came.TheVariants.{Nothing, Answered, Refused}
use Rattle.reading.specs.Rows.{row_of, end_of, read_from}
use Rattle.common.specs.Lists.{Each}
use Rattle.files.specs.Told.{Told, told_of, told_from, told}
use Rattle.files.specs.RowLaws.{OwnAnswer, AnsweredBy, AnsweredRight, Shows, OneMoveAtMost, StandsAt}
use Rattle.files.specs.RowLaws.OwnAnswer.{starts, steps}
use Rattle.files.specs.Shown.{LooksLawful}
use Rattle.files.proofs.Told.{each}
use Rattle.files.proofs.EachRow.{rows_are_own_answers}

-- ---- One row

-- What a new start stamp and every step keep between the state before and the state after, and what is so where the state stays, is so of
-- every row.
module _ (Between : State → State → Type 0)
    (stays : (s : State) → Reached s → Between s s)
    (starting : (s : State) (stamp : ℕ) → Reached s → Between s (started_at stamp s))
    (stepping : (s : State) (stamp : ℕ) (bytes : List ℕ) → Reached s → Between s (step_of s stamp bytes).state) where
  answer_between : {before : State} {label stamp : ℕ} {sample : List ℕ} {a : Answer}
      → OwnAnswer before label stamp sample a → Reached before → Between before a.state
  answer_between {before = before} (starts stamp sample) reached = starting before stamp reached
  answer_between {before = before} (steps label stamp sample other) reached = stepping before stamp sample reached

  by_came : (t : Told) (came : Came) → AnsweredBy t came → Reached t.before → Between t.before t.after
  by_came t Nothing e reached = rw e (stays t.before reached)
  by_came t (Answered label code) row reached = answer_between row.own reached
  by_came t (Refused at refusal) e reached = rw e (stays t.before reached)

  pub row_between : (t : Told) → AnsweredRight t → Reached t.before → Between t.before t.after
  row_between t right reached = by_came t t.came right reached

row_reached : (t : Told) → AnsweredRight t → Reached t.before → Reached t.after
row_reached =
    row_between (λ before after. Reached after) (λ s r. r) (λ s stamp r. started r stamp) (λ s stamp bytes r. step r stamp bytes)

-- Where the core stays it stands.
core_stays : (s later : State) → later.core ≡ s.core → gears_of s ≡ Extended → Stands s later
core_stays s later same extended =
    let doors = ap (λ (c : Core). c.place.doors) same in
    record {
      placed =
          record {
            gears_stay = ap (λ (c : Core). c.place.gears) same ∙ extended;
            not_opening = λ e. sym doors ∙ e;
            not_open = λ e. sym doors ∙ e;
          };
      not_started = subst (λ (c : Core). T c.orders.retracts.on) same;
    }

-- ---- One row after the other

-- What is told of a row is the controller's own answer, and both states are reached.
pub record Sound (t : Told) : Type 0 where
  pub right : AnsweredRight t
  pub from : Reached t.before
  pub to : Reached t.after

all_sound : (line : ℕ) (reading : Reading) (rows : List (List ℕ)) → Each AnsweredRight (told_from line reading rows)
    → Reached reading.state
    → Each Sound (told_from line reading rows)
unfolding told_from
all_sound line reading [] right reached =
    let t = told_of line [] reading (end_of reading) in
    (record { right = right.0; from = reached; to = row_reached t right.0 reached }, tt)
all_sound line reading (row ∷ rows) right reached =
    let heard = row_of reading row in
    let next = row_reached (told_of line row reading heard) right.0 reached in
    (record { right = right.0; from = reached; to = next }, all_sound (line + 1) heard.reading rows right.1 next)

module _ (state : State) (reached : Reached state) (input : List ℕ) where
  pub sound : Each Sound (told state input)
  unfolding told
  sound = all_sound 1 (read_from state) (rows_of input) (rows_are_own_answers state input) reached

  -- Every row shows a reached state ..
  pub every_row_shows_a_reached_state : Each (Shows Reached) (told state input)
  every_row_shows_a_reached_state = each Sound (Shows Reached) (λ t r. r.to) (told state input) sound

  -- .. so what holds always holds of every row ..
  pub what_holds_always_holds_of_every_row : (Law : State → Type 0) → Always Law → Each (Shows Law) (told state input)
  what_holds_always_holds_of_every_row Law always = each Sound (Shows Law) (λ t r. always t.after r.to) (told state input) sound

  -- .. and the orders, doors and gears that it shows keep document 01's laws.
  pub every_row_is_lawful : Each (Shows LooksLawful) (told state input)
  unfolding shown_of
  every_row_is_lawful =
      what_holds_always_holds_of_every_row LooksLawful
      (λ s r. record {
        opposites = opposites_never_together s r;
        with_general = none_of_the_four_without_general s r;
        doors_open = gear_orders_only_with_doors_open s r;
        gears_rest = door_orders_only_with_gears_at_rest s r;
      })

  -- From row to row doors and gears make one move of the ground model with both cases added, or none ..
  pub every_row_is_one_move_or_none : Each OneMoveAtMost (told state input)
  unfolding started_at
  every_row_is_one_move_or_none =
      each Sound OneMoveAtMost
      (λ t r. row_between (λ before after. OneMoveOrNone (ground_of after) (handle_of after) before.core.place after.core.place)
      (λ s from. no_move) (λ s stamp from. no_move) (λ s stamp bytes from. follows_the_ground_model s from stamp bytes)
      t r.right r.from)
      (told state input) sound

  -- .. and where a row votes some absorber on ground, EXTENDED gears stay.
  pub every_row_stands_on_its_wheels : Each StandsAt (told state input)
  unfolding started_at
  every_row_stands_on_its_wheels =
      each Sound StandsAt
      (λ t r. row_between (λ before after. gears_of before ≡ Extended → T (ground_of after) → Stands before after)
      (λ s from extended grounded. core_stays s s refl extended) (λ s stamp from extended grounded. core_stays s (started_at stamp s) refl extended)
      (λ s stamp bytes from. stands_on_its_wheels s (stamp, bytes))
      t r.right r.from)
      (told state input) sound
