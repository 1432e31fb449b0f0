-- Sensor after sensor is put, as they are cut from an image; and both ways from form to form are this.
-- Assumes nothing.
use Rattle.std.proofs.Common.{rules, ap₂, ℕ, zero, suc, ◌+◌, ◌*◌, ◌-◌, ◌<◌, ◌≤◌, List, [], ◌++◌, length, take, drop, ◌≡◌, refl, sym, ap, ◌∙◌, arith, append_assoc, append-nil}
use Rattle.texts.specs.declared.Line.{Line}
use Rattle.texts.specs.Lines.{PutsIfRoom}
use Rattle.texts.proofs.Lines.{same, and}
use lib.Seq.{drop_at, take_all}
use Rattle.std.proofs.lemmas.List.{take-append-le, take-take, drop-take}
use lib.ListN.{length-append, length-drop}
use Rattle.forms.specs.Forms.{stamp_bytes, sensors, voter_bytes, count_bytes, eight_zeros, with_zeros, sensors_widened, widened, sensors_narrowed, narrowed, sensor_turned, sensors_turned, turned}

-- ---- Both ways

sensors_widened_so : (more : ℕ) (bytes : List ℕ) → sensors_turned eight_zeros voter_bytes more bytes ≡ sensors_widened more bytes
unfolding with_zeros sensors_widened sensor_turned sensors_turned
sensors_widened_so zero bytes = refl
sensors_widened_so (suc more) bytes = ap (λ (l : List ℕ). with_zeros (take voter_bytes bytes) ++ l) (sensors_widened_so more (drop voter_bytes bytes))

pub widened_so : (image : List ℕ) → turned eight_zeros voter_bytes image ≡ widened image
unfolding widened turned
widened_so image = simp sensors_widened_so

none_behind : (bytes : List ℕ) → sensor_turned [] bytes ≡ take voter_bytes bytes
unfolding sensor_turned
none_behind bytes = search (rules, append-nil)

sensors_narrowed_so : (more : ℕ) (bytes : List ℕ) → sensors_turned [] (voter_bytes + count_bytes) more bytes ≡ sensors_narrowed more bytes
unfolding sensors_narrowed sensors_turned
sensors_narrowed_so zero bytes = refl
sensors_narrowed_so (suc more) bytes =
    ap₂ (λ (k l : List ℕ). k ++ l) (none_behind bytes) (sensors_narrowed_so more (drop (voter_bytes + count_bytes) bytes))

pub narrowed_so : (image : List ℕ) → turned [] (voter_bytes + count_bytes) image ≡ narrowed image
unfolding narrowed turned
narrowed_so image = simp sensors_narrowed_so

-- ---- One sensor more

-- Of a sensor only the first eight bytes count ..
of_first : (behind sensor others : List ℕ) → voter_bytes ≤ length sensor → sensor_turned behind (sensor ++ others) ≡ sensor_turned behind sensor
unfolding sensor_turned
of_first behind sensor others few = rw (take-append-le voter_bytes sensor others few)

of_first_taken : (behind : List ℕ) (width : ℕ) (bytes : List ℕ) → voter_bytes ≤ width → sensor_turned behind (take width bytes) ≡ sensor_turned behind bytes
unfolding sensor_turned
of_first_taken behind width bytes few = rw (take-take voter_bytes width bytes few)

-- So many sensors are left, whose bytes these are; what is put of them behind what was put is all.
pub record IsPutSoFar (behind : List ℕ) (width : ℕ) (all : List ℕ) (before : Line) (left : List ℕ) (after : Line) : Type 0 where
  pub more : ℕ
  pub put : List ℕ
  pub long : length left ≡ width * more
  pub whole : put ++ sensors_turned behind width more left ≡ all
  pub there : PutsIfRoom put before after

module _ {behind : List ℕ} {width : ℕ} {all : List ℕ} {before : Line} {left : List ℕ} {after : Line} (wide : voter_bytes ≤ width) where
  -- One sensor more is put.
  pub one_more_put : IsPutSoFar behind width all before left after
      → (sensor others : List ℕ) → left ≡ sensor ++ others → length sensor ≡ width → {end : Line}
      → PutsIfRoom (sensor_turned behind sensor) after end → IsPutSoFar behind width all before others end
  unfolding sensors_turned
  one_more_put so sensor others cut full {end = end} puts = by so.more so.long so.whole
    where
      by : (more : ℕ) → length left ≡ width * more → so.put ++ sensors_turned behind width more left ≡ all
          → IsPutSoFar behind width all before others end
      by zero long whole = absurd (omega (arith, ap length cut, length-append sensor others))
      by (suc more) long whole =
          let e : sensor_turned behind left ++ sensors_turned behind width more (drop width left) ≡ sensor_turned behind sensor ++ sensors_turned behind width more others =
          rw (cut, drop_at sensor others width full, of_first behind sensor others (omega arith))
          in
          record {
            more = more;
            put = so.put ++ sensor_turned behind sensor;
            long = omega (arith, ap length cut, length-append sensor others);
            whole = append_assoc so.put _ _ ∙ ap (λ (l : List ℕ). so.put ++ l) (sym e) ∙ whole;
            there = and so.there puts;
          }

  -- Where none is left, all is put.
  pub none_left : IsPutSoFar behind width all before left after → length left < width → PutsIfRoom all before after
  unfolding sensors_turned
  none_left so few = by so.more so.long so.whole
    where
      by : (more : ℕ) → length left ≡ width * more → so.put ++ sensors_turned behind width more left ≡ all → PutsIfRoom all before after
      by zero long whole = same (sym (append-nil so.put) ∙ whole) so.there
      by (suc more) long whole = absurd (omega arith)

-- ---- Stamp, sensors and rest are the whole

-- Of the bytes only those of the sensors count.
of_front : (behind : List ℕ) (width more : ℕ) (bytes : List ℕ) → voter_bytes ≤ width
    → sensors_turned behind width more (take (width * more) bytes) ≡ sensors_turned behind width more bytes
unfolding sensors_turned
of_front behind width zero bytes wide = refl
of_front behind width (suc more) bytes wide =
    let place : width * suc more ≡ width + width * more = omega arith in
    let few : voter_bytes ≤ width + width * more = omega arith in
    rw (place, of_first_taken behind (width + width * more) bytes few, drop-take width (width * more) bytes, of_front behind width more (drop width bytes) wide)

pub turned_pieces : (behind : List ℕ) (width : ℕ) (image : List ℕ) → voter_bytes ≤ width
    → (take stamp_bytes image
    ++ sensors_turned behind width sensors (take (stamp_bytes + width * sensors - stamp_bytes) (drop stamp_bytes image)))
    ++ take (length image - (stamp_bytes + width * sensors)) (drop (stamp_bytes + width * sensors) image)
    ≡ turned behind width image
unfolding turned
turned_pieces behind width image wide =
    let front : stamp_bytes + width * sensors - stamp_bytes ≡ width * sensors = omega arith in
    let rest : take (length image - (stamp_bytes + width * sensors)) (drop (stamp_bytes + width * sensors) image) ≡ drop (stamp_bytes + width * sensors) image =
    take_all _ _ (simp length-drop (omega arith)) in
    rw (front, of_front behind width sensors (drop stamp_bytes image) wide, rest)
