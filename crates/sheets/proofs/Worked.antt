-- Request K2 on Session S, bytes to bytes: the sheet of its dump is the one that is wanted. And on an input that is no dump.
-- Assumes nothing.
use Rattle.std.proofs.Common.{◌≡◌, [], ◌++◌, take, refl, ◌∙◌, append-nil}
use mathlib.Core.Option.{some}
use Rattle.common.specs.Ascii.{ended, joined_by_commas}
use Rattle.common.specs.Decimal.{decimal, decimal_up_to}
use Rattle.names.specs.Words.{order_names, lamp_names, sensor_names}
use Rattle.dump.specs.Wires.{wire_names}
use Rattle.dump.specs.Dumps.{lines_from, declaration, opening_text}
use Rattle.dump.specs.SessionS.{session_dump}
use Rattle.dump.specs.Cases.{values_in, at}
use Rattle.readback.specs.Bytes.{new_reader, at_opening, byte_of}
use Rattle.readback.specs.Reads.{complete, begins}
use Rattle.readback.specs.Calls.{read_up_to, given_from, given_of}
use Rattle.readback.specs.Cases.{session_moments}
use Rattle.readback.proofs.Worked.{session_read}
use Rattle.sheets.specs.Sheets.{sheet_header, sheet_row, sheet_rows, sheet_of, lines_in, line_of, nine_at}
use Rattle.sheets.specs.Cases.{session_rows, session_sheet, no_dump}
use Rattle.sheets.proofs.Law.{dump_sheet}

-- By computing it.
rows_as_wanted : sheet_header ++ sheet_rows session_moments ≡ session_sheet
unfolding joined_by_commas decimal decimal_up_to order_names lamp_names sensor_names wire_names values_in at session_moments sheet_header sheet_row sheet_rows ended session_rows session_sheet
rows_as_wanted = refl

pub session_sheet_lem : sheet_of session_dump ≡ session_sheet
session_sheet_lem = dump_sheet session_dump session_moments session_read ∙ rows_as_wanted

-- By computing it: nothing is given, and 22 bytes are read.
no_dump_given : given_of no_dump ≡ ([], 9)
unfolding decimal decimal_up_to lines_from declaration order_names lamp_names sensor_names wire_names opening_text new_reader at_opening byte_of complete begins given_from given_of no_dump
no_dump_given = refl

no_dump_read : read_up_to new_reader no_dump ≡ 22
unfolding decimal decimal_up_to lines_from declaration order_names lamp_names sensor_names wire_names opening_text new_reader at_opening byte_of read_up_to no_dump
no_dump_read = refl

-- So its sheet is the header alone, and line 2 is named.
lines_read : lines_in (take 22 no_dump) ≡ 1
unfolding lines_in no_dump
lines_read = refl

pub no_dump_worked : (sheet_of no_dump ≡ sheet_header) × (nine_at no_dump ≡ some 2)
unfolding sheet_rows sheet_of line_of nine_at
no_dump_worked = rw (no_dump_given, no_dump_read, lines_read) (append-nil sheet_header, refl)
