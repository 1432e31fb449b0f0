-- Request K2 on Session S: its dump is read as its moments.
-- Assumes nothing.
use mathlib.Core.Path.{◌≡◌, refl, sym, ap, ◌∙◌}
use native.Mathlib.Omega.{arith}
use Rattle.common.specs.Answers.{gives}
use Rattle.common.specs.Decimal.{decimal, decimal_up_to}
use Rattle.names.specs.Words.{order_names, lamp_names, sensor_names}
use Rattle.dump.specs.Wires.{wire_names}
use Rattle.dump.specs.Dumps.{
  Rising,
  lines_from,
  declaration,
  opening_text,
  closing_text,
  head_text,
  changes_from,
  moment_text,
  later_text,
  dump_of,
}
use Rattle.dump.specs.SessionS.{lines_of, session_lines, session_dump}
use Rattle.dump.specs.Cases.{values_in, at}
use Rattle.readback.specs.Reads.{read_of}
use Rattle.readback.specs.Values.{same_values, shown_after, shown}
use Rattle.readback.specs.Cases.{session_moments}
use Rattle.readback.proofs.Written.{written_is_read}

-- The times rise from 0, and there is a value for each wire.
they_rise : Rising session_moments
unfolding values_in at session_moments
they_rise =
    (refl, refl, (omega arith, omega arith, refl, (omega arith, omega arith, refl, (omega arith, omega arith, refl, (omega arith, omega arith, refl, (omega arith, omega arith, refl, (omega arith, omega arith, refl, tt)))))))

-- Their dump is Session S's. By computing it.
their_dump : dump_of session_moments ≡ session_dump
unfolding decimal decimal_up_to lines_from declaration order_names lamp_names sensor_names wire_names opening_text closing_text head_text changes_from moment_text later_text dump_of values_in at session_moments lines_of session_lines session_dump
their_dump = refl

-- Something changes at each.
all_shown : shown session_moments ≡ session_moments
unfolding same_values shown_after shown values_in at session_moments
all_shown = refl

pub session_read : read_of session_dump ≡ gives session_moments
session_read = ap read_of (sym their_dump) ∙ written_is_read session_moments they_rise ∙ ap gives all_shown
