-- The header and rows of a refusal come out as document 01 prints them: the rule computes.
-- Assumes nothing.
use mathlib.Core.Path.{refl}
use Rattle.common.specs.Ascii.{joined_by_commas}
use Rattle.common.specs.Case.{AllAsWanted}
use Rattle.common.specs.Decimal.{decimal, decimal_up_to}
use Rattle.names.specs.Words.{order_names, lamp_names}
use Rattle.output.specs.Cases.{lines}
use Rattle.output.specs.Rows.{header_text, refusal_text}

pub worked : AllAsWanted lines
unfolding lines header_text refusal_text joined_by_commas order_names lamp_names decimal decimal_up_to
worked = refl
