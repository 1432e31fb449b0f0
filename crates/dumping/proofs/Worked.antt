-- Session S of document 01, from all bytes of its trace to all bytes of its dump: the rules compute.
-- Assumes nothing.
use Rattle.std.proofs.Common.{◌≡◌, refl}
use Rattle.common.specs.Ascii.{ended, joined_by_commas}
use Rattle.common.specs.Decimal.{decimal, decimal_up_to}
use Rattle.controller.specs.Start.{started_at}
use Rattle.controller.specs.Lamps.{values_of}
use Rattle.controller.proofs.Computing.{rules}
use Rattle.lines.specs.Rows.{before, rows_of}
use Rattle.trace.specs.Numbers.{digits_from, number_of, triple_of}
use Rattle.trace.specs.Rows.{fields_of, triples_of, form_of, in_turn, read_row}
use Rattle.trace.specs.Header.{header_names, header_text, same_text}
use Rattle.names.specs.Words.{sensor_names, order_names, lamp_names}
use Rattle.dump.specs.Wires.{wire_names}
use Rattle.dump.specs.Dumps.{lines_from, declaration, opening_text, closing_text, head_text, changes_from, moment_text, later_text, dump_of}
use Rattle.dump.specs.SessionS.{lines_of, session_lines, session_dump}
use Rattle.reading.specs.Rows.{ends_at, header_row, answer_to, shown_row, no_sample, trace_row, row_of, end_of}
use Rattle.reading.specs.SessionS.{trace_of, rows_of_s, session_trace}
use Rattle.dumping.specs.Moments.{wires_of, adds, moments_after, moments_from, waves_from, waves_of}

pub session_dumped : waves_of session_trace ≡ session_dump
unfolding
    rules started_at values_of
    before rows_of digits_from number_of triple_of fields_of triples_of form_of in_turn read_row header_names sensor_names header_text same_text
    decimal decimal_up_to joined_by_commas order_names lamp_names
    wire_names lines_from declaration opening_text closing_text head_text changes_from moment_text later_text dump_of lines_of session_lines session_dump
    ends_at header_row answer_to shown_row no_sample trace_row row_of end_of
    wires_of adds moments_after moments_from waves_from waves_of ended trace_of rows_of_s session_trace
session_dumped = refl
