-- `image::items::sensors_in` meets its contract: after i turns the first i sensors are those of the image.
-- Assumes nothing.
use Rattle.std.proofs.Common.{◌*◌, false, List, ℕ, sym, ap, ◌∙◌, take, drop, arith}
use lib.ListN.{length-set}
use lib.Seq.{drop-drop}
use Rattle.voter.specs.Voting.{fresh_with}
use Rattle.sensors.specs.Items.{items_per_sensor, sensor_in}
use Rattle.image.specs.Xdr.{items_in}
use Rattle.image.specs.Items.{sensor_count}
use Rattle.image.proofs.Strung.{sensors_length, strung_sensor}
use Rattle.image.proofs.Filling.{one_more, all_of_them}
use Rattle.image.proofs.items.sensors_in.Goals as goal
use Rattle.image.proofs.items.sensors_in.Invariants.{theirs}

pub loop-i-preserved : goal.loop-i-preserved
loop-i-preserved c =
    let l = c.loop-i in
    let bytes = c.args.image.now in
    let all = sensors_length sensor_count (drop 1 (items_in bytes)) in
    let own = strung_sensor sensor_count l.i (drop 1 (items_in bytes)) (fresh_with false) (omega arith) in
    let place = drop-drop (items_per_sensor * l.i) 1 (items_in bytes) in (
      l.invariant.0,
      length-set l.voter-items l.i _ ∙ l.invariant.1,
      one_more (theirs bytes) _ l.i l.invariant.2 (fresh_with false)
          (c.sensor_at.ensures ∙ sym (own ∙ ap (λ (items : List ℕ). sensor_in (take items_per_sensor items)) place))
          (omega (arith, l.invariant.0)) (omega (arith, all)),
    )

pub returns : goal.returns
returns c =
    let l = c.loop-i in
    let bytes = c.args.image.now in
    let all = sensors_length sensor_count (drop 1 (items_in bytes)) in
    all_of_them (theirs bytes) _ l.i l.invariant.2 (omega (arith, l.invariant.0)) (omega (arith, all))
