-- `image::ranges::top` meets its contract: the stamp's range, a sensor's, one of the core.
-- Assumes nothing.
use Prim.Native.Nat.{ℕ, ◌-◌, ◌%◌}
use native.Mathlib.Omega.{arith}
use mathlib.Core.List.{List}
use mathlib.Core.Path.{ap, ◌∙◌}
use lib.ListN.{get_or}
use Rattle.sensors.specs.Items.{items_per_sensor}
use Rattle.image.specs.Items.{core_tops, tops}
use Rattle.image.proofs.Strung.{sensor_top, core_top}
use Rattle.image.proofs.ranges.top.Goals as goal

pub returns-then-k-eq0 : goal.returns-then-k-eq0
unfolding tops
returns-then-k-eq0 c = rw c.if-k-eq0.true

pub returns-then-k-lt-FIRST_ORDER : goal.returns-then-k-lt-FIRST_ORDER
returns-then-k-lt-FIRST_ORDER c =
    let a = c.args in
    ap (λ (items : List ℕ). get_or items ((a.k - 1) % items_per_sensor) 0) c.tops.ensures
    ∙ sensor_top a.k (omega (arith, c.if-k-eq0.false)) (omega arith)

pub returns : goal.returns
unfolding core_tops
returns c = core_top c.args.k (omega arith)
