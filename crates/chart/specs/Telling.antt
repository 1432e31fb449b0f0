-- Requests K4 and K7: what a reader takes from the page. Each place names at most one fact, and tells what comes next with it and else. A
-- place of the ground that is not shown is as in the air.
-- Assumes nothing.
use Rattle.std.specs.Prelude.{ℕ, ◌+◌, ◌*◌, ◌/◌, ◌%◌, Bool, false, cond, ◌&&◌, ◌≡◌, None, Some}
use Rattle.sequence.specs.declared.Place.{Place}
use Rattle.sequence.specs.declared.Seen.{Seen}
use Rattle.sequence.specs.Moves.{is_up}
use Rattle.sequence.specs.Places.{are_extended}
use Rattle.table.specs.declared.Asked.{Asked}
use Rattle.table.specs.Table.{facts_at}
use Rattle.chart.specs.declared.differences.Fact.TheVariants.{AllOpen, AllClosed, AllExtended, AllRetracted}
use Rattle.chart.specs.Differences.{places_in_the_air, stand_at, aim_at, place_of, Deciding, next_with, decisive, differs}
use Rattle.chart.specs.Headings.{ground_left, first_shown}

-- The named fact is among those that are seen. Where none is named, none is.
abbrev pub is_among : Deciding → Seen → Bool
is_among None seen = false
is_among (Some AllOpen) seen = seen.opened
is_among (Some AllClosed) seen = seen.closed
is_among (Some AllExtended) seen = seen.extended
is_among (Some AllRetracted) seen = seen.retracted

-- What the page tells of a place where these facts are seen: what stands under `if ..` where the named fact is among them, and
-- else what stands under `else` or `always`.
unfoldable pub told_of : Asked → Seen → Place
told_of a seen = let fact = decisive a in cond (is_among fact seen) (next_with a fact) (next_with a None)

-- Where a reader looks for place k: there if it differs from the same place in the air, which is the one to look at otherwise.
abbrev pub looked_at : ℕ → ℕ
looked_at k = cond (differs k) k (k % places_in_the_air)

-- What the page tells at entry n.
unfoldable pub told : ℕ → Place
told n = told_of (stand_at (looked_at (n / 16))) (facts_at (n % 16))

-- ---- Where the places of the ground are shown

-- Place k has the handle up and gears EXTENDED.
abbrev pub is_up_extended : ℕ → Bool
is_up_extended k = is_up (aim_at k) && are_extended (place_of k).gears

-- The place of the ground that is place k in the air is one of those that the headings stand at, and as far across the page as the heading of
-- its doors.
abbrev pub UnderItsHeadings : ℕ → Type 0
UnderItsHeadings k = let headed : ℕ = first_shown + 4 * (k / 4 % 4) in (places_in_the_air + k ≡ headed) × (ground_left k ≡ ground_left headed)
