-- The worked traces are saved as they should be, with their lines: the rules compute.
-- Assumes nothing.
use mathlib.Core.Path.{refl}
use Rattle.common.specs.Ascii.{ended, joined_by_commas}
use Rattle.common.specs.Case.{AllAsWanted}
use Rattle.voter.specs.Numbers.{number_of}
use Rattle.sensors.specs.Items.{sensor_items}
use Rattle.controller.specs.Start.{started_at}
use Rattle.controller.proofs.Computing.{rules}
use Rattle.image.specs.Xdr.{four_bytes, bytes_of}
use Rattle.image.specs.Items.{sensors_items, order_items, orders_items, rest_items, core_items, items_of}
use Rattle.image.specs.Images.{image_of}
use Rattle.lines.specs.Rows.{before, rows_of}
use Rattle.trace.specs.Numbers.{digits_from, number_of as number_in, triple_of}
use Rattle.trace.specs.Rows.{fields_of, triples_of, form_of, in_turn, read_row}
use Rattle.names.specs.Words.{sensor_names}
use Rattle.trace.specs.Header.{header_names, header_text, same_text}
use Rattle.reading.specs.Rows.{ends_at, header_row, answer_to, shown_row, no_sample, trace_row, row_of, end_of}
use Rattle.reading.specs.Whole.{read_to}
use Rattle.reading.specs.SessionS.{trace_of, rows_of_s}
use Rattle.handing.specs.Handing.{image_left, saved_of}
use Rattle.handing.specs.Cases.{image_of_s, saves, is_of_line, handing_cases}

pub as_worked : AllAsWanted handing_cases
unfolding
    rules started_at
    number_of four_bytes bytes_of sensor_items sensors_items order_items orders_items rest_items core_items items_of image_of
    before rows_of digits_from number_in triple_of fields_of triples_of form_of in_turn read_row header_names sensor_names header_text same_text joined_by_commas
    ends_at header_row answer_to shown_row no_sample trace_row row_of end_of read_to
    ended trace_of rows_of_s
    image_left saved_of image_of_s saves is_of_line handing_cases
as_worked = refl
