-- `image::items::state_in` meets its contract: sensors and core.
-- Assumes nothing.
use Prim.Native.Nat.{ℕ, ◌+◌, ◌<◌}
use native.Mathlib.Omega.{arith}
use mathlib.Core.List.{List}
use mathlib.Core.Path.{subst⁻¹, ◌∙◌}
use lib.Dec.{lit<}
use lib.ListN.{drop, length-drop}
use lib.Seq.{take_all, get_or-take, get_or-drop}
use Rattle.image.specs.Xdr.{items_in}
use Rattle.image.specs.Items.{first_order, core_width, sensors_tops, core_tops, tops, item_at, state_in}
use Rattle.image.proofs.Ranged.{within_up_to}
use Rattle.image.proofs.Fours.{items_length}
use Rattle.image.proofs.items.state_in.Goals as goal

pub items-requires : goal.items-requires
items-requires c = omega (arith, c.requires.0)

pub core_in-requires : goal.core_in-requires
unfolding sensors_tops core_tops tops
core_in-requires c =
    let items = items_in c.args.image.now in
    let few = within_up_to tops items c.requires.1 (first_order + 13) (lit< tt) in
    let cause = get_or-take core_width (drop first_order items) 13 0 (lit< tt) ∙ get_or-drop first_order items 13 0 in
    subst⁻¹ (λ (core : List ℕ). item_at core 13 < 256) c.items.ensures (omega (arith, cause, few))

pub returns : goal.returns
unfolding state_in
returns c =
    let image = c.args.image.now in
    let long = c.requires.0 in
    let core = drop first_order (items_in image) in
    let whole = take_all core_width core (simp length-drop (omega (arith, items_length image))) in
    rw (c.core_in.ensures, c.items.ensures, whole, c.sensors_in.ensures)
