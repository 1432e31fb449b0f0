-- What the whole run of each task is.
-- Assumes nothing.
use Rattle.std.proofs.Common.{◌≡◌, ℕ, List, [], replicate, ap}
use Rattle.lines.specs.Rows.{rows_of}
use Rattle.lines.proofs.Law.{start_law}
use Rattle.controller.specs.declared.State.{State}
use Rattle.reading.specs.declared.Run.{Run}
use Rattle.reading.specs.Rows.{read_from}
use Rattle.reading.specs.Whole.{read_to}
use Rattle.reading.specs.Parts.{line_bytes, between, run_from}
use Rattle.reading.specs.Runs.{to_come}
use Rattle.reading.proofs.ByParts.{left_of_rows}
use Rattle.lesson.specs.Replay.{text_told, written_of, resumed_of}
use Rattle.dumping.specs.Parts.{begun_from}
use Rattle.dumping.specs.Moments.{waves_from}
use Rattle.dumping.proofs.Law as dumps
use Rattle.sheets.specs.Sheets.{sheet_of}
use Rattle.sheets.proofs.Law as sheet_law
use Rattle.running.specs.Rules.{whole_of}
use Rattle.running.specs.Works.{with_rows, rows, with_image, image, waves, sheet}

-- The rows of a trace are those of `replay` from that controller, and the run that is left bears the reading of the whole;
pub whole_rows : (state : State) (input : List ℕ)
    → whole_of rows state input ≡ (resumed_of state input, with_rows (between (read_to (read_from state) (rows_of input))))
unfolding whole_of begun_from to_come run_from resumed_of written_of
whole_rows state input =
    rw (start_law input)
    (ap (λ (run : Run). (resumed_of state input, with_rows run))
    (left_of_rows text_told Prim.tt (read_from state) (rows_of input)))

-- so it is where an image is wanted, and nothing is put out;
pub whole_image : (state : State) (input : List ℕ)
    → whole_of image state input ≡ ([], with_image (between (read_to (read_from state) (rows_of input))))
unfolding whole_of begun_from to_come run_from
whole_image state input =
    rw (start_law input)
    (ap (λ (run : Run). ([], with_image run))
    (left_of_rows text_told Prim.tt (read_from state) (rows_of input)))

-- the dump of a trace is that of `waves` from that controller;
pub whole_waves : (state : State) (input : List ℕ) → (whole_of waves state input).0 ≡ waves_from state input
unfolding whole_of
whole_waves state input = dumps.dump_to_come state (replicate line_bytes 0) input

-- the rows of a dump are those of `sheet`.
pub whole_sheet : (state : State) (input : List ℕ) → (whole_of sheet state input).0 ≡ sheet_of input
unfolding whole_of
whole_sheet state input = sheet_law.whole_sheet input
