-- Request K6, "converting old to new to old, without loading, gives the same bytes": widened and narrowed an old image is what it was; and so
-- is a new one narrowed and widened, where behind each sensor's eight bytes eight zero bytes stand.
-- Assumes nothing.
use Prim.Native.Nat.{ℕ, zero, suc, ◌+◌, ◌*◌, ◌<◌, ◌≤◌}
use native.Mathlib.Omega.{arith}
use mathlib.Core.Bool.{Bool, true, false}
use mathlib.Core.List.{List, [], ◌++◌, append_assoc}
use mathlib.Core.Logic.◌⊎◌.{inl, inr}
use mathlib.Core.Path.{◌≡◌, refl, sym, ap, ap₂, subst, subst⁻¹, ◌∙◌}
use borrow.Author.Tests.{eq-eqb, ne_eqb}
use lib.Dec.{T, eqb, eqb→eq}
use lib.ListN.{length, take, drop, length-append, length-drop, take-append-drop}
use lib.Seq.{take_at, drop_at, take-add, drop-drop, length-take-le}
use Rattle.forms.specs.Forms.{stamp_bytes, sensors, voter_bytes, count_bytes, old_size, new_size, HasForm, eight_zeros, with_zeros, sensors_widened, widened, sensors_narrowed, narrowed, in_new_form, in_old_form, NoneCounted}

-- ---- One sensor

with_zeros_length : (voter : List ℕ) → length (with_zeros voter) ≡ length voter + count_bytes
unfolding with_zeros
with_zeros_length voter = simp length-append (omega arith)

module _ (voter rest : List ℕ) (long : length voter ≡ voter_bytes) where
  whole_long : length (with_zeros voter) ≡ voter_bytes + count_bytes
  whole_long = omega (arith, with_zeros_length voter, long)

  -- Behind it stands the rest.
  behind_it : drop (voter_bytes + count_bytes) (with_zeros voter ++ rest) ≡ rest
  behind_it = drop_at (with_zeros voter) rest (voter_bytes + count_bytes) whole_long

  -- Its own eight bytes stand in front ..
  voter_in_front : take voter_bytes (with_zeros voter ++ rest) ≡ voter
  unfolding with_zeros
  voter_in_front = ap (take voter_bytes) (append_assoc voter eight_zeros rest) ∙ take_at voter (eight_zeros ++ rest) voter_bytes long

  -- .. and behind them the zero bytes.
  zeros_behind : take count_bytes (drop voter_bytes (with_zeros voter ++ rest)) ≡ eight_zeros
  unfolding with_zeros
  zeros_behind =
      ap (λ (l : List ℕ). take count_bytes (drop voter_bytes l)) (append_assoc voter eight_zeros rest)
      ∙ ap (take count_bytes) (drop_at voter (eight_zeros ++ rest) voter_bytes long)
      ∙ take_at eight_zeros rest count_bytes refl

-- ---- How long they are

pub sensors_widened_length : (more : ℕ) (bytes : List ℕ) → voter_bytes * more ≤ length bytes
    → length (sensors_widened more bytes) ≡ (voter_bytes + count_bytes) * more
unfolding sensors_widened
sensors_widened_length zero bytes h = refl
sensors_widened_length (suc more) bytes h =
    let one : List ℕ = take voter_bytes bytes in
    let long : length one ≡ voter_bytes = length-take-le voter_bytes bytes (omega arith) in
    let rest = sensors_widened_length more (drop voter_bytes bytes) (simp length-drop (omega arith)) in
    omega (arith, length-append (with_zeros one) (sensors_widened more (drop voter_bytes bytes)), whole_long one [] long, rest)

pub sensors_narrowed_length : (more : ℕ) (bytes : List ℕ) → (voter_bytes + count_bytes) * more ≤ length bytes
    → length (sensors_narrowed more bytes) ≡ voter_bytes * more
unfolding sensors_narrowed
sensors_narrowed_length zero bytes h = refl
sensors_narrowed_length (suc more) bytes h =
    let rest = sensors_narrowed_length more (drop (voter_bytes + count_bytes) bytes) (simp length-drop (omega arith)) in
    let first : length (take voter_bytes bytes) ≡ voter_bytes = length-take-le voter_bytes bytes (omega arith) in
    omega (arith, length-append (take voter_bytes bytes) (sensors_narrowed more (drop (voter_bytes + count_bytes) bytes)), first, rest)

-- A front, a middle and a rest.
module _ (front middle rest : List ℕ) (n m : ℕ) (a : length front ≡ n) (b : length middle ≡ m) where
  front_of : take n ((front ++ middle) ++ rest) ≡ front
  front_of = ap (take n) (append_assoc front middle rest) ∙ take_at front (middle ++ rest) n a

  behind_front : drop n ((front ++ middle) ++ rest) ≡ middle ++ rest
  behind_front = ap (drop n) (append_assoc front middle rest) ∙ drop_at front (middle ++ rest) n a

  rest_of : drop (n + m) ((front ++ middle) ++ rest) ≡ rest
  rest_of = drop_at (front ++ middle) rest (n + m) (length-append front middle ∙ ap₂ (λ (x y : ℕ). x + y) a b)

-- Bytes are their front, their middle and their rest.
in_three : (n m : ℕ) (bytes : List ℕ) → (take n bytes ++ take m (drop n bytes)) ++ drop (n + m) bytes ≡ bytes
in_three n m bytes = ap (λ (l : List ℕ). l ++ drop (n + m) bytes) (sym (take-add n m bytes)) ∙ take-append-drop (n + m) bytes

-- ---- The sensors there and back

narrowed_of_widened : (more : ℕ) (bytes rest : List ℕ) → voter_bytes * more ≤ length bytes
    → sensors_narrowed more (sensors_widened more bytes ++ rest) ≡ take (voter_bytes * more) bytes
unfolding sensors_widened sensors_narrowed
narrowed_of_widened zero bytes rest h = refl
narrowed_of_widened (suc more) bytes rest h =
    let one : List ℕ = take voter_bytes bytes in
    let others : List ℕ = sensors_widened more (drop voter_bytes bytes) in
    let long : length one ≡ voter_bytes = length-take-le voter_bytes bytes (omega arith) in
    let place : voter_bytes * suc more ≡ voter_bytes + voter_bytes * more = omega arith in
    rw (append_assoc (with_zeros one) others rest, voter_in_front one (others ++ rest) long, behind_it one (others ++ rest) long, narrowed_of_widened more (drop voter_bytes bytes) rest (simp length-drop (omega arith)), place)
    (sym (take-add voter_bytes (voter_bytes * more) bytes))

-- Odd channel and count of sensor i, among the bytes of the sensors.
count_in : ℕ → List ℕ → List ℕ
count_in i bytes = take count_bytes (drop ((voter_bytes + count_bytes) * i + voter_bytes) bytes)

widened_of_narrowed : (more : ℕ) (bytes rest : List ℕ) → (voter_bytes + count_bytes) * more ≤ length bytes
    → ((i : ℕ) → i < more → count_in i bytes ≡ eight_zeros)
    → sensors_widened more (sensors_narrowed more bytes ++ rest) ≡ take ((voter_bytes + count_bytes) * more) bytes
unfolding with_zeros sensors_widened sensors_narrowed count_in
widened_of_narrowed zero bytes rest h none = refl
widened_of_narrowed (suc more) bytes rest h none =
    let one : List ℕ = take voter_bytes bytes in
    let others : List ℕ = sensors_narrowed more (drop (voter_bytes + count_bytes) bytes) in
    let long : length one ≡ voter_bytes = length-take-le voter_bytes bytes (omega arith) in
    let place : (voter_bytes + count_bytes) * suc more ≡ (voter_bytes + count_bytes) + (voter_bytes + count_bytes) * more = omega arith in
    let later : (i : ℕ) → i < more → count_in i (drop (voter_bytes + count_bytes) bytes) ≡ eight_zeros =
    λ i less. let further : (voter_bytes + count_bytes) + ((voter_bytes + count_bytes) * i + voter_bytes) ≡ (voter_bytes + count_bytes) * suc i + voter_bytes = omega arith in
    ap (take count_bytes) (drop-drop ((voter_bytes + count_bytes) * i + voter_bytes) (voter_bytes + count_bytes) bytes) ∙ ap (λ (n : ℕ). take count_bytes (drop n bytes)) further ∙ none (suc i) (omega arith)
    in
    let whole : one ++ eight_zeros ≡ take (voter_bytes + count_bytes) bytes =
    ap (λ (l : List ℕ). one ++ l) (sym (none 0 (omega arith))) ∙ sym (take-add voter_bytes count_bytes bytes)
    in
    rw (append_assoc one others rest, take_at one (others ++ rest) voter_bytes long, drop_at one (others ++ rest) voter_bytes long, widened_of_narrowed more (drop (voter_bytes + count_bytes) bytes) rest (simp length-drop (omega arith)) later, whole, place)
    (sym (take-add (voter_bytes + count_bytes) ((voter_bytes + count_bytes) * more) bytes))

-- Sensor i, widened, is its eight bytes and eight zero bytes ..
at_widened : (more : ℕ) (bytes rest : List ℕ) → voter_bytes * more ≤ length bytes → (i : ℕ) → i < more
    → (let there = drop ((voter_bytes + count_bytes) * i) (sensors_widened more bytes ++ rest) in
    (take voter_bytes there ≡ take voter_bytes (drop (voter_bytes * i) bytes)) × (take count_bytes (drop voter_bytes there) ≡ eight_zeros))
unfolding sensors_widened
at_widened zero bytes rest h i less = absurd (omega arith)
at_widened (suc more) bytes rest h zero less =
    let one : List ℕ = take voter_bytes bytes in
    let others : List ℕ = sensors_widened more (drop voter_bytes bytes) in
    let long : length one ≡ voter_bytes = length-take-le voter_bytes bytes (omega arith) in
    rw (append_assoc (with_zeros one) others rest) (voter_in_front one (others ++ rest) long, zeros_behind one (others ++ rest) long)
at_widened (suc more) bytes rest h (suc i) less =
    let one : List ℕ = take voter_bytes bytes in
    let others : List ℕ = sensors_widened more (drop voter_bytes bytes) in
    let long : length one ≡ voter_bytes = length-take-le voter_bytes bytes (omega arith) in
    let width : ℕ = voter_bytes + count_bytes in
    let further : width + width * i ≡ width * suc i = omega arith in
    let on : voter_bytes + voter_bytes * i ≡ voter_bytes * suc i = omega arith in
    rw (append_assoc (with_zeros one) others rest, ← further, ← drop-drop (width * i) width (with_zeros one ++ (others ++ rest)), behind_it one (others ++ rest) long, ← on, ← drop-drop (voter_bytes * i) voter_bytes bytes)
    (at_widened more (drop voter_bytes bytes) rest (simp length-drop (omega arith)) i (omega arith))

-- .. and narrowed it is its first eight.
at_narrowed : (more : ℕ) (bytes rest : List ℕ) → (voter_bytes + count_bytes) * more ≤ length bytes → (i : ℕ) → i < more
    → take voter_bytes (drop (voter_bytes * i) (sensors_narrowed more bytes ++ rest)) ≡ take voter_bytes (drop ((voter_bytes + count_bytes) * i) bytes)
unfolding sensors_narrowed
at_narrowed zero bytes rest h i less = absurd (omega arith)
at_narrowed (suc more) bytes rest h zero less =
    let one : List ℕ = take voter_bytes bytes in
    let others : List ℕ = sensors_narrowed more (drop (voter_bytes + count_bytes) bytes) in
    let long : length one ≡ voter_bytes = length-take-le voter_bytes bytes (omega arith) in
    rw (append_assoc one others rest) (take_at one (others ++ rest) voter_bytes long)
at_narrowed (suc more) bytes rest h (suc i) less =
    let one : List ℕ = take voter_bytes bytes in
    let width : ℕ = voter_bytes + count_bytes in
    let others : List ℕ = sensors_narrowed more (drop width bytes) in
    let long : length one ≡ voter_bytes = length-take-le voter_bytes bytes (omega arith) in
    let further : voter_bytes + voter_bytes * i ≡ voter_bytes * suc i = omega arith in
    let on : width + width * i ≡ width * suc i = omega arith in
    rw (append_assoc one others rest, ← further, ← drop-drop (voter_bytes * i) voter_bytes (one ++ (others ++ rest)), drop_at one (others ++ rest) voter_bytes long, ← on, ← drop-drop (width * i) width bytes)
    (at_narrowed more (drop width bytes) rest (simp length-drop (omega arith)) i (omega arith))

-- ---- Whole images

module _ (old : List ℕ) (long : length old ≡ old_size) where
  front_long : length (take stamp_bytes old) ≡ stamp_bytes
  front_long = length-take-le stamp_bytes old (omega arith)

  sensed_long : length (sensors_widened sensors (drop stamp_bytes old)) ≡ (voter_bytes + count_bytes) * sensors
  sensed_long = sensors_widened_length sensors (drop stamp_bytes old) (simp length-drop (omega arith))

  pub widened_length : length (widened old) ≡ new_size
  unfolding widened
  widened_length =
      let front : List ℕ = take stamp_bytes old in
      let sensed : List ℕ = sensors_widened sensors (drop stamp_bytes old) in
      let rest : List ℕ = drop (stamp_bytes + voter_bytes * sensors) old in
      omega (
        arith,
        length-append (front ++ sensed) rest,
        length-append front sensed,
        front_long,
        sensed_long,
        length-drop (stamp_bytes + voter_bytes * sensors) old,
      )

  -- The bytes of sensor i are where they should be, with zero bytes behind them, and so is the rest.
  sensor_there : (i : ℕ) → i < sensors
      → (let there = drop (stamp_bytes + (voter_bytes + count_bytes) * i) (widened old) in
      (take voter_bytes there ≡ take voter_bytes (drop (stamp_bytes + voter_bytes * i) old)) × (take count_bytes (drop voter_bytes there) ≡ eight_zeros))
  unfolding widened
  sensor_there i less =
      let front : List ℕ = take stamp_bytes old in
      let sensed : List ℕ = sensors_widened sensors (drop stamp_bytes old) in
      let rest : List ℕ = drop (stamp_bytes + voter_bytes * sensors) old in
      rw (
        ← drop-drop ((voter_bytes + count_bytes) * i) stamp_bytes ((front ++ sensed) ++ rest),
        behind_front front sensed rest stamp_bytes ((voter_bytes + count_bytes) * sensors) front_long sensed_long,
        ← drop-drop (voter_bytes * i) stamp_bytes old,
      )
      (at_widened sensors (drop stamp_bytes old) rest (simp length-drop (omega arith)) i less)

  pub voter_in_widened : (i : ℕ) → i < sensors
      → take voter_bytes (drop (stamp_bytes + (voter_bytes + count_bytes) * i) (widened old)) ≡ take voter_bytes (drop (stamp_bytes + voter_bytes * i) old)
  voter_in_widened i less = (sensor_there i less).0

  pub none_counted_widened : NoneCounted (widened old)
  none_counted_widened i less =
      ap (take count_bytes) (sym (drop-drop voter_bytes (stamp_bytes + (voter_bytes + count_bytes) * i) (widened old))) ∙ (sensor_there i less).1

  pub rest_in_widened : drop (stamp_bytes + (voter_bytes + count_bytes) * sensors) (widened old) ≡ drop (stamp_bytes + voter_bytes * sensors) old
  unfolding widened
  rest_in_widened = rest_of (take stamp_bytes old) (sensors_widened sensors (drop stamp_bytes old)) _ stamp_bytes _ front_long sensed_long

  pub narrowed_widened : narrowed (widened old) ≡ old
  unfolding widened narrowed
  narrowed_widened =
      let front : List ℕ = take stamp_bytes old in
      let sensed : List ℕ = sensors_widened sensors (drop stamp_bytes old) in
      let rest : List ℕ = drop (stamp_bytes + voter_bytes * sensors) old in
      let width : ℕ = (voter_bytes + count_bytes) * sensors in
      rw (
        front_of front sensed rest stamp_bytes width front_long sensed_long,
        behind_front front sensed rest stamp_bytes width front_long sensed_long,
        rest_of front sensed rest stamp_bytes width front_long sensed_long,
        narrowed_of_widened sensors (drop stamp_bytes old) rest (simp length-drop (omega arith)),
      )
      (in_three stamp_bytes (voter_bytes * sensors) old)

module _ (new : List ℕ) (long : length new ≡ new_size) where
  head_long : length (take stamp_bytes new) ≡ stamp_bytes
  head_long = length-take-le stamp_bytes new (omega arith)

  kept_long : length (sensors_narrowed sensors (drop stamp_bytes new)) ≡ voter_bytes * sensors
  kept_long = sensors_narrowed_length sensors (drop stamp_bytes new) (simp length-drop (omega arith))

  pub narrowed_length : length (narrowed new) ≡ old_size
  unfolding narrowed
  narrowed_length =
      let front : List ℕ = take stamp_bytes new in
      let kept : List ℕ = sensors_narrowed sensors (drop stamp_bytes new) in
      let rest : List ℕ = drop (stamp_bytes + (voter_bytes + count_bytes) * sensors) new in
      omega (
        arith,
        length-append (front ++ kept) rest,
        length-append front kept,
        head_long,
        kept_long,
        length-drop (stamp_bytes + (voter_bytes + count_bytes) * sensors) new,
      )

  pub voter_in_narrowed : (i : ℕ) → i < sensors
      → take voter_bytes (drop (stamp_bytes + voter_bytes * i) (narrowed new)) ≡ take voter_bytes (drop (stamp_bytes + (voter_bytes + count_bytes) * i) new)
  unfolding narrowed
  voter_in_narrowed i less =
      let front : List ℕ = take stamp_bytes new in
      let kept : List ℕ = sensors_narrowed sensors (drop stamp_bytes new) in
      let rest : List ℕ = drop (stamp_bytes + (voter_bytes + count_bytes) * sensors) new in
      rw (
        ← drop-drop (voter_bytes * i) stamp_bytes ((front ++ kept) ++ rest),
        behind_front front kept rest stamp_bytes (voter_bytes * sensors) head_long kept_long,
        ← drop-drop ((voter_bytes + count_bytes) * i) stamp_bytes new,
      )
      (at_narrowed sensors (drop stamp_bytes new) rest (simp length-drop (omega arith)) i less)

  pub rest_in_narrowed : drop (stamp_bytes + voter_bytes * sensors) (narrowed new) ≡ drop (stamp_bytes + (voter_bytes + count_bytes) * sensors) new
  unfolding narrowed
  rest_in_narrowed = rest_of (take stamp_bytes new) (sensors_narrowed sensors (drop stamp_bytes new)) _ stamp_bytes _ head_long kept_long

  pub widened_narrowed : NoneCounted new → widened (narrowed new) ≡ new
  unfolding widened narrowed count_in
  widened_narrowed none =
      let front : List ℕ = take stamp_bytes new in
      let kept : List ℕ = sensors_narrowed sensors (drop stamp_bytes new) in
      let rest : List ℕ = drop (stamp_bytes + (voter_bytes + count_bytes) * sensors) new in
      let width : ℕ = voter_bytes * sensors in
      let each : (i : ℕ) → i < sensors → count_in i (drop stamp_bytes new) ≡ eight_zeros =
      λ i less. let place : stamp_bytes + ((voter_bytes + count_bytes) * i + voter_bytes) ≡ stamp_bytes + (voter_bytes + count_bytes) * i + voter_bytes = omega arith in
      ap (take count_bytes) (drop-drop ((voter_bytes + count_bytes) * i + voter_bytes) stamp_bytes new) ∙ ap (λ (n : ℕ). take count_bytes (drop n new)) place ∙ none i less
      in
      rw (
        front_of front kept rest stamp_bytes width head_long kept_long,
        behind_front front kept rest stamp_bytes width head_long kept_long,
        rest_of front kept rest stamp_bytes width head_long kept_long,
        widened_of_narrowed sensors (drop stamp_bytes new) rest (simp length-drop (omega arith)) each,
      )
      (in_three stamp_bytes ((voter_bytes + count_bytes) * sensors) new)

-- ---- In a form

module _ (image : List ℕ) where
  pub old_is_widened : length image ≡ old_size → in_new_form image ≡ widened image
  unfolding in_new_form
  old_is_widened old = rw (eq-eqb (length image) old_size old)

  pub other_is_not_widened : (length image ≡ old_size → ⊥) → in_new_form image ≡ image
  unfolding in_new_form
  other_is_not_widened other = rw (ne_eqb (length image) old_size other)

  pub new_is_narrowed : length image ≡ new_size → in_old_form image ≡ narrowed image
  unfolding in_old_form
  new_is_narrowed new = rw (eq-eqb (length image) new_size new)

  pub other_is_not_narrowed : (length image ≡ new_size → ⊥) → in_old_form image ≡ image
  unfolding in_old_form
  other_is_not_narrowed other = rw (ne_eqb (length image) new_size other)

  -- What has the form that is asked for is handed over as it is.
  pub new_stays : length image ≡ new_size → in_new_form image ≡ image
  new_stays new = other_is_not_widened (λ old. absurd (omega (arith, new, old)))

  pub old_stays : length image ≡ old_size → in_old_form image ≡ image
  old_stays old = other_is_not_narrowed (λ new. absurd (omega (arith, new, old)))

-- What has a form has a stamp.
pub has_stamp : (image : List ℕ) → HasForm image → stamp_bytes ≤ length image
has_stamp image (inl old) = omega (arith, old)
has_stamp image (inr new) = omega (arith, new)

-- What has a form has so many bytes in the one that is asked for.
pub new_form_length : (image : List ℕ) → HasForm image → length (in_new_form image) ≡ new_size
new_form_length image (inl old) = ap length (old_is_widened image old) ∙ widened_length image old
new_form_length image (inr new) = ap length (new_stays image new) ∙ new

pub old_form_length : (image : List ℕ) → HasForm image → length (in_old_form image) ≡ old_size
old_form_length image (inl old) = ap length (old_stays image old) ∙ old
old_form_length image (inr new) = ap length (new_is_narrowed image new) ∙ narrowed_length image new

-- And only that has.
pub has_form : (image : List ℕ) → length (in_new_form image) ≡ new_size → HasForm image
has_form image long = by_test (eqb (length image) old_size) refl
  where
    by_test : (t : Bool) → eqb (length image) old_size ≡ t → HasForm image
    by_test true is = inl (eqb→eq (length image) old_size (subst⁻¹ T is tt))
    by_test false is = inr (sym (ap length (other_is_not_widened image (λ old. subst T (sym (eq-eqb (length image) old_size old) ∙ is) tt))) ∙ long)

-- The stamp is kept.
pub stamp_in_new_form : (image : List ℕ) → HasForm image → take stamp_bytes (in_new_form image) ≡ take stamp_bytes image
unfolding widened
stamp_in_new_form image (inl old) =
    ap (take stamp_bytes) (old_is_widened image old)
    ∙ front_of (take stamp_bytes image) (sensors_widened sensors (drop stamp_bytes image)) _ stamp_bytes _ (front_long image old) (sensed_long image old)
stamp_in_new_form image (inr new) = ap (take stamp_bytes) (new_stays image new)

pub stamp_in_old_form : (image : List ℕ) → HasForm image → take stamp_bytes (in_old_form image) ≡ take stamp_bytes image
unfolding narrowed
stamp_in_old_form image (inl old) = ap (take stamp_bytes) (old_stays image old)
stamp_in_old_form image (inr new) =
    ap (take stamp_bytes) (new_is_narrowed image new)
    ∙ front_of (take stamp_bytes image) (sensors_narrowed sensors (drop stamp_bytes image)) _ stamp_bytes _ (head_long image new) (kept_long image new)

-- Old to new to old gives the same bytes, ..
pub old_to_new_to_old : (image : List ℕ) → length image ≡ old_size → in_old_form (in_new_form image) ≡ image
old_to_new_to_old image old =
    ap in_old_form (old_is_widened image old) ∙ new_is_narrowed (widened image) (widened_length image old) ∙ narrowed_widened image old

-- .. and so does new to old to new where no count is in it.
pub new_to_old_to_new : (image : List ℕ) → length image ≡ new_size → NoneCounted image → in_new_form (in_old_form image) ≡ image
new_to_old_to_new image new none =
    ap in_new_form (new_is_narrowed image new) ∙ old_is_widened (narrowed image) (narrowed_length image new) ∙ widened_narrowed image new none
