-- The headers fit into the output buffer, and what is put there stands in front.
-- Assumes nothing.
use Rattle.std.proofs.Common.{◌≡◌, ℕ, ◌≤◌, List, length, ap, ◌∙◌, arith, lit≤}
use Rattle.common.specs.Ascii.{joined_by_commas}
use Rattle.texts.specs.Puts.{Put, put_of}
use Rattle.texts.proofs.Placing.{did_put, front_next, front_line}
use Rattle.names.specs.Words.{sensor_names, order_names, lamp_names}
use Rattle.output.specs.Rows.{header_text}
use Rattle.lesson.specs.Writes.{told}
use Rattle.dump.specs.Wires.{wire_names}
use Rattle.sheets.specs.Sheets.{sheet_header}
use Rattle.running.specs.Rules.{room}

pub header_fits : length header_text ≤ room
unfolding header_text joined_by_commas order_names lamp_names
header_fits = lit≤ tt

pub sheet_header_fits : length sheet_header ≤ room
unfolding sheet_header wire_names joined_by_commas order_names lamp_names sensor_names
sheet_header_fits = lit≤ tt

-- A text that is put at the front, where there is room for it.
pub told_put : (n : ℕ) (out out' text : List ℕ) → length text ≤ length out → (n, out') ≡ put_of out 0 text → (n, out') ≡ told text out
told_put n out out' text fits e =
    let p : Put out 0 text out' n = did_put (omega arith) e in
    ap (λ (k : ℕ). (k, out')) (front_next p) ∙ ap (λ (l : List ℕ). (length text, l)) (front_line p)
