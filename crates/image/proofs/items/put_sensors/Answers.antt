-- `image::items::put_sensors` meets its contract: after k turns the items of the first k sensors stand there.
-- Assumes nothing.
use Rattle.std.proofs.Common.{◌≡◌, rules, ap, ◌∙◌, arith, length, List, ℕ, take, ◌++◌}
use Rattle.texts.proofs.Lines.{and, same, nothing}
use lib.Seq.{take_all}
use Rattle.voter.specs.declared.Voter.{Voter}
use Rattle.image.specs.Xdr.{bytes_of}
use Rattle.image.specs.Items.{sensor_count, sensors_items}
use Rattle.image.proofs.Pieces.{sensor_turn}
use Rattle.image.proofs.items.put_sensors.Goals as goal

pub loop-v-init : goal.loop-v-init
unfolding bytes_of sensors_items
loop-v-init c = nothing

pub loop-v-preserved : goal.loop-v-preserved
loop-v-preserved c =
    let l = c.loop-v in
    let voters = c.args.voters in
    let all : length voters ≡ sensor_count = search rules in
    let one = ap (λ (b : List ℕ). bytes_of (sensors_items (take l.v-index voters)) ++ b) (ap bytes_of c.items.ensures) in
    same (one ∙ sensor_turn l.v-index voters _ (omega (arith, all))) (and l.invariant c.put_items.ensures)

pub returns : goal.returns
returns c =
    let l = c.loop-v in
    let voters = c.args.voters in
    let all : length voters ≡ sensor_count = search rules in
    same (ap (λ (vs : List Voter). bytes_of (sensors_items vs)) (take_all l.v-index voters (omega (arith, all)))) l.invariant
