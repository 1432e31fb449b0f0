-- Request K6: the two forms of an image as bytes, with no controller in them. The old form has eight bytes for each sensor, its voter and
-- held value; the new one has its odd channel and count behind them, eight more. The length tells the forms apart.
-- Assumes nothing.
use Rattle.std.specs.Prelude.{ℕ, zero, suc, ◌+◌, ◌*◌, ◌<◌, cond, List, [], ◌++◌, ◌⊎◌, ◌≡◌, eqb, length, take, drop, replicate}

-- ---- How many bytes

-- The last stamp.
abbrev pub stamp_bytes : ℕ
stamp_bytes = 4

-- Sensors.
abbrev pub sensors : ℕ
sensors = 18

-- Voter and held value of a sensor; its odd channel and count have as many.
abbrev pub voter_bytes : ℕ
voter_bytes = 8

abbrev pub count_bytes : ℕ
count_bytes = 8

-- The orders, handle age, doors, gears and cause.
abbrev pub rest_bytes : ℕ
rest_bytes = 56

-- The old form: 204 bytes.
abbrev pub old_size : ℕ
old_size = stamp_bytes + voter_bytes * sensors + rest_bytes

-- The new form: 348 bytes.
abbrev pub new_size : ℕ
new_size = stamp_bytes + (voter_bytes + count_bytes) * sensors + rest_bytes

-- The length is that of a form.
abbrev pub HasForm : List ℕ → Type 0
HasForm image = (length image ≡ old_size) ⊎ (length image ≡ new_size)

-- ---- From one form to the other

-- Odd channel and count, both 0.
abbrev pub eight_zeros : List ℕ
eight_zeros = replicate count_bytes 0

-- A sensor of the old form in the new one: eight zero bytes behind its eight.
unfoldable pub with_zeros : List ℕ → List ℕ
with_zeros voter = voter ++ eight_zeros

-- So many sensors, each of them so.
unfoldable pub sensors_widened : ℕ → List ℕ → List ℕ
sensors_widened zero bytes = []
sensors_widened (suc more) bytes = with_zeros (take voter_bytes bytes) ++ sensors_widened more (drop voter_bytes bytes)

-- An old image, widened so.
unfoldable pub widened : List ℕ → List ℕ
widened old =
    take stamp_bytes old ++
    sensors_widened sensors (drop stamp_bytes old) ++
    drop (stamp_bytes + voter_bytes * sensors) old

-- So many sensors of the new form, each without the eight bytes behind its first eight.
unfoldable pub sensors_narrowed : ℕ → List ℕ → List ℕ
sensors_narrowed zero bytes = []
sensors_narrowed (suc more) bytes = take voter_bytes bytes ++ sensors_narrowed more (drop (voter_bytes + count_bytes) bytes)

-- A new image, narrowed so.
unfoldable pub narrowed : List ℕ → List ℕ
narrowed new =
    take stamp_bytes new ++
    sensors_narrowed sensors (drop stamp_bytes new) ++
    drop (stamp_bytes + (voter_bytes + count_bytes) * sensors) new

-- Both at once: of each sensor, which has so many bytes, the first eight, and these behind them. Widened is a sensor of eight bytes with eight
-- zero bytes, and narrowed one of sixteen with none (proofs/Turns.antt).
unfoldable pub sensor_turned : List ℕ → List ℕ → List ℕ
sensor_turned behind bytes = take voter_bytes bytes ++ behind

unfoldable pub sensors_turned : List ℕ → ℕ → ℕ → List ℕ → List ℕ
sensors_turned behind width zero bytes = []
sensors_turned behind width (suc more) bytes = sensor_turned behind bytes ++ sensors_turned behind width more (drop width bytes)

unfoldable pub turned : List ℕ → ℕ → List ℕ → List ℕ
turned behind width image =
    take stamp_bytes image ++
    sensors_turned behind width sensors (drop stamp_bytes image) ++
    drop (stamp_bytes + width * sensors) image

-- ---- In a form

-- An image in the new form: an old one is widened, any other is as it is ..
unfoldable pub in_new_form : List ℕ → List ℕ
in_new_form image = cond (eqb (length image) old_size) (widened image) image

-- .. and in the old form: a new one is narrowed, any other is as it is.
unfoldable pub in_old_form : List ℕ → List ℕ
in_old_form image = cond (eqb (length image) new_size) (narrowed image) image

-- Odd channel and count of sensor i, counted from 0, in the new form.
abbrev pub count_at : ℕ → List ℕ → List ℕ
count_at i new = take count_bytes (drop (stamp_bytes + (voter_bytes + count_bytes) * i + voter_bytes) new)

-- All of them are zero bytes.
abbrev pub NoneCounted : List ℕ → Type 0
NoneCounted new = (i : ℕ) → i < sensors → count_at i new ≡ eight_zeros
