-- Session S of document 01 comes out as it prints it, with the lamps of request K1, byte for byte, and so do a part of it that is
-- handed over and the short inputs that end early: the rules compute.
-- Assumes nothing.
use mathlib.Core.List.{◌∷◌}
use mathlib.Core.Path.{refl}
use Rattle.common.specs.Ascii.{ended, joined_by_commas}
use Rattle.common.specs.Case.{AllAsWanted}
use Rattle.common.specs.Decimal.{decimal, decimal_up_to}
use Rattle.controller.specs.Start.{started_at}
use Rattle.controller.proofs.Computing.{rules}
use Rattle.lines.specs.Rows.{before, rows_of}
use Rattle.trace.specs.Numbers.{digits_from, number_of, triple_of}
use Rattle.trace.specs.Rows.{fields_of, triples_of, form_of, in_turn, read_row}
use Rattle.trace.specs.Header.{header_names, header_text as trace_header, same_text}
use Rattle.names.specs.Words.{sensor_names, order_names, lamp_names}
use Rattle.output.specs.Rows.{header_text, row_text, refusal_text}
use Rattle.reading.specs.Rows.{ends_at, header_row, answer_to, shown_row, no_sample, trace_row, row_of, end_of, nothing_read}
use Rattle.reading.specs.Whole.{read_to}
use Rattle.reading.specs.Runs.{in_rows}
use Rattle.reading.specs.SessionS.{trace_of, rows_of_s, session_trace}
use Rattle.lesson.specs.Replay.{written_of, replay_of, resumed_of}
use Rattle.lesson.specs.Cases.{output, replays, session_s, handed_over, early, after_the_last_label}

pub worked : AllAsWanted (session_s ∷ handed_over ∷ after_the_last_label ∷ early)
unfolding
    rules started_at
    before rows_of digits_from number_of triple_of fields_of triples_of form_of in_turn read_row header_names sensor_names trace_header same_text
    decimal decimal_up_to joined_by_commas order_names lamp_names header_text row_text refusal_text
    ends_at header_row answer_to shown_row no_sample trace_row row_of end_of nothing_read read_to in_rows written_of replay_of resumed_of
    ended trace_of rows_of_s session_trace output replays session_s handed_over early after_the_last_label
worked = refl
