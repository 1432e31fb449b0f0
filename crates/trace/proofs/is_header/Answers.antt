-- `trace::is_header` meets its contract: the bytes that it compares with are the header's, and `==` of slices compares them.
-- Assumes nothing.
use Rattle.common.specs.Ascii.{joined_by_commas}
use Rattle.names.specs.Words.{sensor_names}
use mathlib.Core.Path.{◌∙◌, ap}
use Rattle.trace.specs.Header.{same_text, header_names, header_text}
use Rattle.trace.proofs.Texts.{same_by_bytes}
use Rattle.trace.proofs.is_header.Goals as goal

pub returns : goal.returns
unfolding header_text header_names sensor_names joined_by_commas
returns c = c.eq.ensures ∙ same_by_bytes c.args.row.now c.as_slice.result.now ∙ ap (same_text c.args.row.now) c.as_slice.ensures
