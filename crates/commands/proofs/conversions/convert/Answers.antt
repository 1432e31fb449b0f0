-- `commands::conversions::convert` meets its contract: an image that was taken is converted.
-- Assumes nothing.
use mathlib.Core.Path.{sym}
use lib.Seq.{length-take-le}
use Rattle.commands.proofs.NoBytes.{read_within, what_was_read}
use Rattle.commands.proofs.conversions.convert.Goals as goal

pub slice_bounds-bytes-end : goal.slice_bounds-bytes-end
slice_bounds-bytes-end g c = read_within c.in-Some.taken _ c.in-Some.ensures

pub slice_bounds-keep-end : goal.slice_bounds-keep-end
slice_bounds-keep-end g c = sym (length-take-le _ _ (read_within c.in-Some.taken _ c.in-Some.ensures))

pub returns : goal.returns
returns g c = record { image = _; loaded = what_was_read c.in-Some.taken _ c.in-Some.ensures; only_then = c.keep.ensures }
