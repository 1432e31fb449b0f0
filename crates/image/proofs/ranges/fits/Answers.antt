-- `image::ranges::fits` meets its contract: by the length, and no item is found out of its range.
-- Assumes nothing.
use Rattle.std.proofs.Common.{sym, ◌∙◌}
use Rattle.std.proofs.lemmas.Bool.{ne_eqb}
use Rattle.image.proofs.Searching.{none_found}
use Rattle.image.proofs.Faulty.{fits_ranged, fits_not}
use Rattle.image.proofs.ranges.fits.Goals as goal

pub returns-then-new-eq-SIZE : goal.returns-then-new-eq-SIZE
returns-then-new-eq-SIZE c = none_found _ _ _ _ c.first_out.ensures c.is_none.ensures ∙ sym (fits_ranged _ c.if-new-eq-SIZE.true)

pub returns-else-new-eq-SIZE : goal.returns-else-new-eq-SIZE
returns-else-new-eq-SIZE c = ne_eqb _ _ c.if-new-eq-SIZE.false ∙ sym (fits_not _ c.requires c.if-new-eq-SIZE.false)
