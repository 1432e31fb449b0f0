-- What each program makes of its input: `replay` and `handover resume` the rows of a trace, `handover save` the controller that a trace leaves,
-- `waves` the dump of a trace, `sheet` the rows of a dump. Each is the run of a crate below.
-- Assumes nothing.
use Rattle.std.specs.Prelude.{ℕ, List, []}
use Rattle.output.specs.Rows.{header_text}
use Rattle.reading.specs.declared.Run.{Run}
use Rattle.reading.specs.Rows.{has_ended}
use Rattle.reading.specs.Parts.{between}
use Rattle.reading.specs.Runs.{Outcome, to_come}
use Rattle.lesson.specs.Answers.{Took as RowsTook}
use Rattle.lesson.specs.Replay.{text_told}
use Rattle.lesson.specs.Parts.{fill_of as fill_rows, finish_of as last_row}
use Rattle.dump.specs.declared.Dump.{Dump}
use Rattle.dumping.specs.Answers.{Took as WavesTook}
use Rattle.dumping.specs.Parts.{given, begun_from, fill_of as fill_waves, finish_of as last_moment}
use Rattle.sheets.specs.declared.Sheet.{Sheet as SheetUnderWay}
use Rattle.sheets.specs.Answers.{Took as SheetTook}
use Rattle.sheets.specs.Sheets.{sheet_header}
use Rattle.sheets.specs.Runs.{new_sheet, fill_of as fill_sheet, finish_of as last_line, to_come as sheet_to_come}
use Rattle.running.specs.declared.tasks.Rows.{Rows}
use Rattle.running.specs.declared.tasks.Image.{Image}
use Rattle.running.specs.declared.tasks.Waves.{Waves}
use Rattle.running.specs.declared.tasks.Sheet.{Sheet}
use Rattle.running.specs.Rules.{Answer, Come, Rule}

-- ---- The rows of a trace

abbrev pub with_rows : Run → Rows
with_rows run = record { run = run }

abbrev pub rows_answer : RowsTook × List ℕ × List ℕ → Answer Rows
rows_answer answer = (
  record { work = with_rows answer.0.run; used = answer.0.used; written = answer.0.written; refusal = answer.0.refusal },
  answer.1,
  answer.2,
)

abbrev pub rows_come : Outcome (Unit {0}) → Come Rows
rows_come outcome = (outcome.0, with_rows outcome.2)

abbrev pub rows : Rule Rows
rows =
    record {
      start = λ state. with_rows (begun_from state).run;
      header = header_text;
      is_ended = λ work. has_ended work.run.reading.phase;
      fill_of = λ work part line out. rows_answer (fill_rows work.run part line out);
      last_of = λ work line out. rows_answer (last_row work.run line out);
      all_of = λ work line rest. rows_come (to_come text_told Prim.tt work.run line rest);
      rest_of = λ work. with_rows (between work.run.reading);
    }

-- ---- The controller that a trace leaves

abbrev pub with_image : Run → Image
with_image run = record { run = run }

-- No row is put out.
abbrev pub image_answer : RowsTook × List ℕ × List ℕ → Answer Image
image_answer answer = (
  record { work = with_image answer.0.run; used = answer.0.used; written = 0; refusal = answer.0.refusal },
  answer.1,
  answer.2,
)

abbrev pub image_come : Outcome (Unit {0}) → Come Image
image_come outcome = ([], with_image outcome.2)

abbrev pub image : Rule Image
image =
    record {
      start = λ state. with_image (begun_from state).run;
      header = [];
      is_ended = λ work. has_ended work.run.reading.phase;
      fill_of = λ work part line out. image_answer (fill_rows work.run part line out);
      last_of = λ work line out. image_answer (last_row work.run line out);
      all_of = λ work line rest. image_come (to_come text_told Prim.tt work.run line rest);
      rest_of = λ work. with_image (between work.run.reading);
    }

-- ---- The dump of a trace

abbrev pub with_waves : Run → Dump → Waves
with_waves run dump = record { waves = record { run = run; dump = dump } }

abbrev pub waves_answer : WavesTook × List ℕ × List ℕ → Answer Waves
waves_answer answer = (
  record { work = record { waves = answer.0.waves }; used = answer.0.used; written = answer.0.written; refusal = answer.0.refusal },
  answer.1,
  answer.2,
)

abbrev pub waves_come : Outcome Dump → Come Waves
waves_come outcome = (outcome.0, with_waves outcome.2 outcome.1)

abbrev pub waves : Rule Waves
waves =
    record {
      start = λ state. record { waves = begun_from state };
      header = [];
      is_ended = λ work. has_ended work.waves.run.reading.phase;
      fill_of = λ work part line out. waves_answer (fill_waves work.waves part line out);
      last_of = λ work line out. waves_answer (last_moment work.waves line out);
      all_of = λ work line rest. waves_come (to_come given work.waves.dump work.waves.run line rest);
      rest_of = λ work. with_waves (between work.waves.run.reading) work.waves.dump;
    }

-- ---- The rows of a dump

abbrev pub with_sheet : SheetUnderWay → Sheet
with_sheet sheet = record { sheet = sheet }

-- (The line buffer is not a sheet's.)
abbrev pub sheet_answer : List ℕ → SheetTook × List ℕ → Answer Sheet
sheet_answer line answer = (
  record { work = with_sheet answer.0.sheet; used = answer.0.used; written = answer.0.written; refusal = answer.0.refusal },
  line,
  answer.1,
)

abbrev pub sheet_come : List ℕ × SheetUnderWay → Come Sheet
sheet_come outcome = (outcome.0, with_sheet outcome.1)

abbrev pub sheet : Rule Sheet
sheet =
    record {
      start = λ state. with_sheet new_sheet;
      header = sheet_header;
      is_ended = λ work. work.sheet.nine;
      fill_of = λ work part line out. sheet_answer line (fill_sheet work.sheet part out);
      last_of = λ work line out. sheet_answer line (last_line work.sheet out);
      all_of = λ work line rest. sheet_come (sheet_to_come work.sheet rest);
      rest_of = λ work. work;
    }
