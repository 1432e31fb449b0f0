-- The lines of the wires, one wire after the other: what each turn of a loop over the wires adds to the text.
-- Assumes nothing.
use Prim.Native.Nat.{ℕ, zero, suc, ◌+◌, ◌-◌, ◌*◌, ◌<◌, ◌≤◌}
use native.Mathlib.Nat.{add-zero, add-suc, suc-add, le_of_suc-le-suc, not-suc-le-zero}
use native.Mathlib.Numerals.{add-one}
use native.Mathlib.Omega.{arith}
use mathlib.Core.Bool.{Bool, true, false, true≢false, false≢true, ◌&&◌, beq}
use lib.Pointwise.{pointwise}
use mathlib.Core.List.{List, [], ◌∷◌, ◌++◌, append_assoc, append-nil}
use mathlib.Core.Path.{◌≡◌, refl, sym, ap, ◌∙◌}
use lib.ListN.{length, get_or, take, length-append, get_or-append}
use lib.Seq.{get_or-append-add}
use Rattle.names.specs.Words.{entry, order_names, lamp_names, sensor_names}
use Rattle.texts.proofs.Lines.{same, nothing}
use Rattle.dump.specs.Wires.{wire_names, wires, first_code}
use Rattle.dump.specs.Dumps.{
  lines_from,
  declaration,
  declarations,
  lines_before,
  lines_behind,
  opening_text,
  closing_text,
  opening_length,
  closing_length,
  value_line,
  value_lines,
  differ,
  change_line,
  changes_from,
  time_line,
  timed,
}

-- There is a name for each wire.
pub names_length : length wire_names ≡ wires
unfolding wire_names order_names lamp_names sensor_names
names_length = refl

-- What every dump begins with.
pub opening_length_lem : length opening_text ≡ opening_length
unfolding opening_text lines_from declaration wire_names order_names lamp_names sensor_names
opening_length_lem = refl

-- What follows the first values.
pub closing_length_lem : length closing_text ≡ closing_length
unfolding closing_text
closing_length_lem = refl

-- ---- The name of a wire, by whether it is an order, a lamp or a sensor

pub order_name : (wire : ℕ) → wire < 5 → entry order_names wire ≡ entry wire_names wire
unfolding wire_names order_names lamp_names
order_name wire h =
    sym (get_or-append (order_names ++ lamp_names) sensor_names [] wire (omega arith) ∙ get_or-append order_names lamp_names [] wire h)

pub lamp_name : (wire : ℕ) → 5 ≤ wire → wire < 8 → entry lamp_names (wire - 5) ≡ entry wire_names wire
unfolding wire_names order_names lamp_names
lamp_name wire h k =
    let place : length order_names + (wire - 5) ≡ wire = omega arith in
    sym (get_or-append (order_names ++ lamp_names) sensor_names [] wire k
    ∙ ap (λ (n : ℕ). get_or (order_names ++ lamp_names) n []) (sym place) ∙ get_or-append-add order_names lamp_names (wire - 5) [])

pub sensor_name : (wire : ℕ) → 8 ≤ wire → entry sensor_names (wire - 8) ≡ entry wire_names wire
unfolding wire_names order_names lamp_names
sensor_name wire h =
    let place : length (order_names ++ lamp_names) + (wire - 8) ≡ wire = omega arith in
    sym (ap (λ (n : ℕ). get_or (order_names ++ lamp_names ++ sensor_names) n []) (sym place)
    ∙ get_or-append-add (order_names ++ lamp_names) sensor_names (wire - 8) [])

pub ruleset wire_name = (order_name, lamp_name, sensor_name)

-- ---- One wire more

-- A wire's code, counted from the one before.
next_code : (code i : ℕ) → suc code + i ≡ code + suc i
next_code code i = suc-add code i ∙ sym (add-suc code i)

module _ {A : Type 0} (other : A) (text : ℕ → A → List ℕ) where
  lines_more : (code i : ℕ) (xs : List A) → i < length xs
      → lines_from text code (take (suc i) xs) ≡ lines_from text code (take i xs) ++ text (code + i) (get_or xs i other)
  unfolding lines_from
  lines_more code i [] h = absurd (not-suc-le-zero h)
  lines_more code zero (x ∷ xs) h = rw (add-zero code) (append-nil (text code x))
  lines_more code (suc i) (x ∷ xs) h =
      ap (λ (l : List ℕ). text code x ++ l) (lines_more (suc code) i xs (le_of_suc-le-suc h))
      ∙ rw (next_code code i) (sym (append_assoc (text code x) (lines_from text (suc code) (take i xs)) _))

  -- The same, as a loop counts.
  pub lines_turn : (i : ℕ) (xs : List A) → i < length xs
      → lines_from text first_code (take i xs) ++ text (first_code + i) (get_or xs i other) ≡ lines_from text first_code (take (i + 1) xs)
  lines_turn i xs h = rw (add-one i) (sym (lines_more first_code i xs h))

  -- So far they are no longer than all.
  pub lines_within : (code i : ℕ) (xs : List A) → length (lines_from text code (take i xs)) ≤ length (lines_from text code xs)
  unfolding lines_from
  lines_within code zero xs = omega arith
  lines_within code (suc i) [] = omega arith
  lines_within code (suc i) (x ∷ xs) = let rest = lines_within (suc code) i xs in simp length-append (omega (arith, rest))

changes_more : (code i : ℕ) (os ns : List Bool) → i < length os → i < length ns
    → changes_from code (take (suc i) os) (take (suc i) ns)
    ≡ changes_from code (take i os) (take i ns) ++ change_line (code + i) (get_or os i false) (get_or ns i false)
unfolding changes_from
changes_more code i [] ns h k = absurd (not-suc-le-zero h)
changes_more code i (o ∷ os) [] h k = absurd (not-suc-le-zero k)
changes_more code zero (o ∷ os) (n ∷ ns) h k = rw (add-zero code) (append-nil (change_line code o n))
changes_more code (suc i) (o ∷ os) (n ∷ ns) h k =
    ap (λ (l : List ℕ). change_line code o n ++ l) (changes_more (suc code) i os ns (le_of_suc-le-suc h) (le_of_suc-le-suc k))
    ∙ rw (next_code code i) (sym (append_assoc (change_line code o n) (changes_from (suc code) (take i os) (take i ns)) _))

-- Three bytes for each wire.
pub values_length : (code : ℕ) (vs : List Bool) → length (value_lines code vs) ≡ 3 * length vs
unfolding lines_from
values_length code [] = refl
values_length code (v ∷ vs) = omega (arith, values_length (suc code) vs)

-- The same, as a loop counts.
pub changes_turn : (i : ℕ) (os ns : List Bool) → i < length os → i < length ns
    → changes_from first_code (take i os) (take i ns) ++ change_line (first_code + i) (get_or os i false) (get_or ns i false)
    ≡ changes_from first_code (take (i + 1) os) (take (i + 1) ns)
changes_turn i os ns h k = rw (add-one i) (sym (changes_more first_code i os ns h k))

-- ---- A wire that changes, and one that does not

-- As the code tests it.
pub is_same : (old new : Bool) → beq old new ≡ true → differ old new ≡ false
is_same true true e = refl
is_same true false e = cc
is_same false true e = cc
is_same false false e = refl

pub is_another : (old new : Bool) → beq old new ≡ false → differ old new ≡ true
is_another true true e = cc
is_another true false e = refl
is_another false true e = refl
is_another false false e = cc

pub unchanged : (code : ℕ) (old new : Bool) → beq old new ≡ true → change_line code old new ≡ []
unchanged code old new e = rw (is_same old new e)

pub changed : (code : ℕ) (old new : Bool) → beq old new ≡ false → change_line code old new ≡ value_line code new
changed code old new e = rw (is_another old new e)

pub ruleset wire_change = (unchanged, changed, same, nothing)

-- A line has at most three bytes.
pub change_length : (code : ℕ) (old new : Bool) → length (change_line code old new) ≤ 3
change_length code true true = omega arith
change_length code true false = omega arith
change_length code false true = omega arith
change_length code false false = omega arith

pub changes_length : (code : ℕ) (os ns : List Bool) → length (changes_from code os ns) ≤ 3 * length ns
unfolding changes_from
changes_length code [] ns = omega arith
changes_length code (o ∷ os) [] = omega arith
changes_length code (o ∷ os) (n ∷ ns) =
    rw (length-append (change_line code o n) (changes_from (suc code) os ns))
    (omega (arith, change_length code o n, changes_length (suc code) os ns))

-- ---- A time at which something changes, and one at which nothing does

pub is_timed : (time : ℕ) (changes : List ℕ) → 0 < length changes → timed time changes ≡ time_line time ++ changes
is_timed time [] h = absurd (omega arith)
is_timed time (b ∷ changes) h = refl

-- ---- Whether something changes

-- The same values are no change.
pub no_change : (code : ℕ) (os ns : List Bool) → pointwise beq os ns ≡ true → changes_from code os ns ≡ []
unfolding changes_from
no_change code [] ns e = refl
no_change code (o ∷ os) [] e = refl
no_change code (o ∷ os) (n ∷ ns) e = by_wire (beq o n) refl e (λ f. no_change (suc code) os ns f) where
  by_wire : (t : Bool) → beq o n ≡ t → (t && pointwise beq os ns) ≡ true
      → (pointwise beq os ns ≡ true → changes_from (suc code) os ns ≡ [])
      → change_line code o n ++ changes_from (suc code) os ns ≡ []
  by_wire true d f on = rw (unchanged code o n d) (on f)
  by_wire false d f on = absurd (false≢true f)

-- Others, as many, are one.
pub some_change : (code : ℕ) (os ns : List Bool) → length os ≡ length ns → pointwise beq os ns ≡ false → 0 < length (changes_from code os ns)
unfolding changes_from
some_change code [] [] h e = absurd (true≢false e)
some_change code [] (n ∷ ns) h e = absurd (omega arith)
some_change code (o ∷ os) [] h e = absurd (omega arith)
some_change code (o ∷ os) (n ∷ ns) h e = by_wire (beq o n) refl e (λ f. some_change (suc code) os ns (omega arith) f) where
  by_wire : (t : Bool) → beq o n ≡ t → (t && pointwise beq os ns) ≡ false
      → (pointwise beq os ns ≡ false → 0 < length (changes_from (suc code) os ns))
      → 0 < length (change_line code o n ++ changes_from (suc code) os ns)
  by_wire true d f on = rw (unchanged code o n d) (on f)
  by_wire false d f on = rw (changed code o n d) (omega arith)
