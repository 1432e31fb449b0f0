-- Each rule is right, by the laws of the crates below. (This stands here and not among the proofs, since each task bears it.)
-- Assumes nothing.
use Rattle.std.proofs.Common.{◌≡◌, ℕ, ◌≤◌, true, List, [], length, sym, refl, ap, ◌∙◌, le_trans, lit≤}
use mathlib.Core.Bool.{false≢true}
use Rattle.controller.specs.declared.State.{State}
use Rattle.reading.specs.declared.Phase.{Phase}
use Rattle.reading.specs.declared.Phase.TheVariants.{Header, Rows as InRows, Ended}
use Rattle.reading.specs.declared.Came.TheVariants.{Nothing}
use Rattle.reading.specs.declared.Run.{Run}
use Rattle.reading.specs.Rows.{has_ended}
use Rattle.reading.specs.Parts.{line_bytes, between}
use Rattle.reading.specs.Runs.{Teller, to_come}
use Rattle.reading.proofs.ByParts.{ended_nothing_to_come}
use Rattle.lesson.specs.Replay.{text_told}
use Rattle.lesson.specs.Parts.{fill_of as fill_rows, finish_of as last_row}
use Rattle.lesson.proofs.Filling.{quiet}
use Rattle.lesson.proofs.Law as lessons
use Rattle.dumping.specs.Parts.{given, nothing_told}
use Rattle.dumping.specs.Parts as waves_by
use Rattle.sheets.specs.Sheets.{row_room}
use Rattle.dumping.proofs.Law as dumps
use Rattle.sheets.proofs.Law as sheet_law
use Rattle.running.specs.declared.tasks.Rows.{Rows}
use Rattle.running.specs.declared.tasks.Image.{Image}
use Rattle.running.specs.declared.tasks.Waves.{Waves}
use Rattle.running.specs.declared.tasks.Sheet.{Sheet}
use Rattle.running.specs.Rules.{room, Come, Rule, Right, RightLast, IsRight}
use Rattle.running.specs.Works.{rows_come, rows, image_come, image, waves_come, waves, sheet_come, sheet}

-- Where a refusal has ended the reading of a trace, nothing is to come.
module _ {A : Type 0} (tell : Teller A) (quiet : (a : A) (before after : State) → tell a before Nothing after ≡ (a, [])) where
  nothing_comes : (a : A) (run : Run) (line rest : List ℕ) (phase : Phase) → run.reading.phase ≡ phase → has_ended phase ≡ true
      → to_come tell a run line rest ≡ ([], a, between run.reading)
  nothing_comes a run line rest Header e h = absurd (false≢true h)
  nothing_comes a run line rest (InRows due) e h = absurd (false≢true h)
  nothing_comes a run line rest (Ended at refusal) e h = ended_nothing_to_come tell quiet a run line rest at refusal e

-- ---- A call, with a line buffer of 512 bytes and room in the output buffer

module _ (line out : List ℕ) (full : length line ≡ line_bytes) (long : room ≤ length out) where
  room_for_a_row : 64 ≤ length out
  room_for_a_row = le_trans (lit≤ tt) long

  rows_filled : (work : Rows) (part : List ℕ) → Right rows work part line (rows.fill_of work part line out)
  rows_filled work part =
      let answer = fill_rows work.run part line out in
      let right = lessons.filled work.run line out answer.0 answer.1 answer.2 part refl full room_for_a_row in
      record { taken = right.taken; full = right.full; forth = right.forth; same = λ rest. ap rows_come (right.same rest) }

  rows_last : (work : Rows) → RightLast rows work line (rows.last_of work line out)
  rows_last work =
      let answer = last_row work.run line out in
      let right = lessons.finished work.run line out answer.0 answer.1 answer.2 refl full room_for_a_row in
      record { taken = right.taken; all = ap rows_come right.all }

  image_filled : (work : Image) (part : List ℕ) → Right image work part line (image.fill_of work part line out)
  image_filled work part =
      let answer = fill_rows work.run part line out in
      let right = lessons.filled work.run line out answer.0 answer.1 answer.2 part refl full room_for_a_row in
      record { taken = right.taken; full = right.full; forth = right.forth; same = λ rest. ap image_come (right.same rest) }

  image_last : (work : Image) → RightLast image work line (image.last_of work line out)
  image_last work =
      let answer = last_row work.run line out in
      let right = lessons.finished work.run line out answer.0 answer.1 answer.2 refl full room_for_a_row in
      record { taken = right.taken; all = ap image_come right.all }

  waves_filled : (work : Waves) (part : List ℕ) → Right waves work part line (waves.fill_of work part line out)
  waves_filled work part =
      let answer = waves_by.fill_of work.waves part line out in
      let right = dumps.filled work.waves line out answer.0 answer.1 answer.2 part refl full long in
      record { taken = right.taken; full = right.full; forth = right.forth; same = λ rest. ap waves_come (right.same rest) }

  waves_last : (work : Waves) → RightLast waves work line (waves.last_of work line out)
  waves_last work =
      let answer = waves_by.finish_of work.waves line out in
      let right = dumps.finished work.waves line out answer.0 answer.1 answer.2 refl full long in
      record { taken = right.taken; all = ap waves_come right.all }

  room_for_a_line : row_room ≤ length out
  room_for_a_line = le_trans (lit≤ tt) long

  sheet_filled : (work : Sheet) (part : List ℕ) → Right sheet work part line (sheet.fill_of work part line out)
  sheet_filled work part =
      let right = sheet_law.fill_right work.sheet part out room_for_a_line in
      record { taken = right.taken; full = full; forth = λ some going. right.forth some; same = λ rest. ap sheet_come (right.same rest) }

  sheet_last : (work : Sheet) → RightLast sheet work line (sheet.last_of work line out)
  sheet_last work =
      let right = sheet_law.finish_right work.sheet out room_for_a_line in
      record { taken = right.taken; all = ap sheet_come right.all }

-- ---- Where a refusal has ended the reading

rows_ended : (work : Rows) (line rest : List ℕ) → rows.is_ended work ≡ true → rows.all_of work line rest ≡ ([], rows.rest_of work)
rows_ended work line rest h = ap rows_come (nothing_comes text_told quiet tt work.run line rest work.run.reading.phase refl h)

image_ended : (work : Image) (line rest : List ℕ) → image.is_ended work ≡ true → image.all_of work line rest ≡ ([], image.rest_of work)
image_ended work line rest h = ap image_come (nothing_comes text_told quiet tt work.run line rest work.run.reading.phase refl h)

waves_ended : (work : Waves) (line rest : List ℕ) → waves.is_ended work ≡ true → waves.all_of work line rest ≡ ([], waves.rest_of work)
waves_ended work line rest h =
    ap waves_come (nothing_comes given nothing_told work.waves.dump work.waves.run line rest work.waves.run.reading.phase refl h)

sheet_ended : (work : Sheet) (line rest : List ℕ) → sheet.is_ended work ≡ true → sheet.all_of work line rest ≡ ([], sheet.rest_of work)
sheet_ended work line rest h = ap sheet_come (sheet_law.nine_for_good work.sheet rest h)

-- The work that the end of the input leaves is one that nothing is to come of.
module _ {A : Type 0} (rule : Rule A)
    (ended : (work : A) (line rest : List ℕ) → rule.is_ended work ≡ true → rule.all_of work line rest ≡ ([], rule.rest_of work))
    (rests : (work : A) → rule.is_ended (rule.rest_of work) ≡ rule.is_ended work) where
  stays : (work : A) (line out : List ℕ) → RightLast rule work line (rule.last_of work line out) → rule.is_ended work ≡ true
      → rule.is_ended (rule.last_of work line out).0.work ≡ true
  stays work line out last h = ap (λ (come : Come A). rule.is_ended come.1) (sym last.all ∙ ended work line [] h) ∙ rests work ∙ h

-- ---- Right

pub rows_right : IsRight rows
rows_right =
    record {
      fill_right = λ work part line out full long. rows_filled line out full long work part;
      last_right = λ work line out full long. rows_last line out full long work;
      ended_for_good = rows_ended;
      stays_ended = λ work line out full long h. stays rows rows_ended (λ work. refl) work line out (rows_last line out full long work) h;
    }

pub image_right : IsRight image
image_right =
    record {
      fill_right = λ work part line out full long. image_filled line out full long work part;
      last_right = λ work line out full long. image_last line out full long work;
      ended_for_good = image_ended;
      stays_ended = λ work line out full long h. stays image image_ended (λ work. refl) work line out (image_last line out full long work) h;
    }

pub waves_right : IsRight waves
waves_right =
    record {
      fill_right = λ work part line out full long. waves_filled line out full long work part;
      last_right = λ work line out full long. waves_last line out full long work;
      ended_for_good = waves_ended;
      stays_ended = λ work line out full long h. stays waves waves_ended (λ work. refl) work line out (waves_last line out full long work) h;
    }

pub sheet_right : IsRight sheet
sheet_right =
    record {
      fill_right = λ work part line out full long. sheet_filled line out full long work part;
      last_right = λ work line out full long. sheet_last line out full long work;
      ended_for_good = sheet_ended;
      stays_ended = λ work line out full long h. stays sheet sheet_ended (λ work. refl) work line out (sheet_last line out full long work) h;
    }
