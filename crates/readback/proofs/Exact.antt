-- What is read is what is written for it, byte for byte, and all else is refused with 9. By induction over the bytes: at each place the
-- bytes to come are what is still to be written of the moment under way and of those after it.
-- Assumes nothing.
use Prim.Native.Nat.{ℕ, suc, ◌+◌, ◌-◌, ◌^◌, ◌<◌, ◌≤◌}
use native.Mathlib.Omega.{arith}
use mathlib.Core.Bool.{Bool, true, false, cond, ◌&&◌, ◌||◌, and_comm, false≢true}
use mathlib.Core.List.{List, [], ◌∷◌, ◌++◌, append_assoc}
use mathlib.Core.Logic.{◌↔◌}
use mathlib.Core.Path.{◌≡◌, refl, sym, ap, subst, ◌∙◌}
use borrow.Author.Tests.{eqb-true, ltb-true, ltb-false, leb-true}
use lib.Dec.{eqb, leb, ltb}
use lib.ListN.{length, take, drop, get_or, set, length-set, drop_of_length-le, replicate, length-replicate}
use lib.Seq.{append_snoc, drop-cons, drop-set-lt, get_or-set_same, get_or-take, take-set-le, take-take}
use Rattle.common.specs.Answers.{Answer, gives, refuses}
use Rattle.common.specs.Ascii.{lf}
use Rattle.common.specs.Bits.{bit}
use Rattle.common.specs.Decimal.{digit0, decimal}
use Rattle.dump.specs.Wires.{wires, first_code}
use Rattle.dump.specs.Dumps.{
  Moment,
  RisesFrom,
  Rising,
  line,
  lines_from,
  opening_text,
  value_lines,
  closing_text,
  head_text,
  differ,
  changes_from,
  hash,
  time_line,
  moment_text,
  later_text,
  dump_of,
}
use Rattle.readback.specs.declared.Place.{Place}
use Rattle.readback.specs.declared.Place.TheVariants.{Opening, FirstValue, FirstCode, FirstEnd, Closing, Line, Time, Code, End, Bad}
use Rattle.readback.specs.declared.Reader.{Reader}
use Rattle.readback.specs.Bytes.{
  new_reader,
  is_value,
  value_of,
  wire_of,
  is_digit,
  with_digit,
  at_opening,
  at_first_value,
  at_first_code,
  at_first_end,
  at_closing,
  at_line,
  at_time,
  at_code,
  at_end,
  byte_of,
}
use Rattle.readback.specs.Reads.{complete, begins, moment_of, before, read_from, read_of}
use Rattle.dump.proofs.Lines.{is_timed}
use Rattle.readback.proofs.Lines.{values_at, changes_none, changes_past, changes_at, digits_of, digits_are, one_more_digit}
use Rattle.readback.proofs.Written.{written_is_read}
use Rattle.readback.proofs.Places.{refusal_gives_nothing, both_hold, reader_at, bad_refuses, taken_on}

-- ---- What is left to be read

-- The changes of the moment under way, from the next wire on.
abbrev changes : ℕ → List Bool → Moment → List ℕ
changes next values m = changes_from (first_code + next) (drop next values) (drop next m.values)

-- From the start of a line on: those changes, and the later moments.
abbrev line_text : ℕ → List Bool → Moment → List Moment → List ℕ
line_text next values m ms = changes next values m ++ later_text m.values ms

-- From the value of the next wire at time 0 on.
abbrev first_text : ℕ → Moment → List Moment → List ℕ
first_text next m ms = value_lines (first_code + next) (drop next m.values) ++ (closing_text ++ later_text m.values ms)

-- A moment is the one under way: its time, and its values of the wires before the next.
record Told (time next : ℕ) (values : List Bool) (m : Moment) : Type 0 where
  same_time : m.time ≡ time
  same_values_lem : take next m.values ≡ take next values

-- A moment is the one that begins: it is later, and changes something.
record Follows (time : ℕ) (values : List Bool) (m : Moment) : Type 0 where
  above : time < m.time
  below : m.time < 2 ^ 64
  some : 0 < length (changes 0 values m)

-- What the bytes are at each place, where the moment under way is `m` and `ms` are those after it.
abbrev Left : Place → ℕ → ℕ → List Bool → Moment → List Moment → List ℕ → Type 0
Left (Opening at) time next values m ms bytes = Told time next values m × (bytes ≡ drop at opening_text ++ first_text next m ms)
Left FirstValue time next values m ms bytes = Told time next values m × (bytes ≡ first_text next m ms)
Left FirstCode time next values m ms bytes = Told time next values m × (bytes ≡ (first_code + next - 1) ∷ lf ∷ first_text next m ms)
Left FirstEnd time next values m ms bytes = Told time next values m × (bytes ≡ lf ∷ first_text next m ms)
Left (Closing at) time next values m ms bytes = Told time next values m × (bytes ≡ drop at closing_text ++ line_text next values m ms)
Left Line time next values m ms bytes =
    Told time next values m × (bytes ≡ line_text next values m ms) × (0 < next + length (changes next values m))
Left (Time n) time next values m ms bytes =
    Follows time values m × (digits_of n ++ bytes ≡ line (decimal m.time) ++ line_text 0 values m ms)
Left (Code value) time next values m ms bytes =
    Told time next values m × ((digit0 + bit value) ∷ bytes ≡ line_text next values m ms) × (0 < length (changes next values m))
Left End time next values m ms bytes = Told time next values m × (bytes ≡ lf ∷ line_text next values m ms)
Left Bad time next values m ms bytes = ⊥

-- The moments that are read: the one under way and those after it, of which something holds.
record ReadsAs (holds : Moment → List Moment → Type 0) (all : List Moment) : Type 0 where
  now : Moment
  later : List Moment
  are : all ≡ now ∷ later
  size : length now.values ≡ wires
  rises : RisesFrom now.time later
  left : holds now later

-- The bytes are what is left of them.
abbrev Reads : Place → ℕ → ℕ → List Bool → List ℕ → List Moment → Type 0
Reads place time next values bytes all = ReadsAs (λ m ms. Left place time next values m ms bytes) all

-- Something else holds of the same moments.
same_moments : {P Q : Moment → List Moment → Type 0} {all : List Moment} → ReadsAs P all
    → ((m : Moment) (ms : List Moment) → length m.values ≡ wires → P m ms → Q m ms)
    → ReadsAs Q all
same_moments k back =
    record { now = k.now; later = k.later; are = k.are; size = k.size; rises = k.rises; left = back k.now k.later k.size k.left }

-- A time that is being read stays below 2 ^ 64.
abbrev Fits : Place → Type 0
Fits (Opening at) = Unit {0}
Fits FirstValue = Unit {0}
Fits FirstCode = Unit {0}
Fits FirstEnd = Unit {0}
Fits (Closing at) = Unit {0}
Fits Line = Unit {0}
Fits (Time n) = n < 2 ^ 64
Fits (Code value) = Unit {0}
Fits End = Unit {0}
Fits Bad = Unit {0}

-- What is to be proved of the bytes, for every reader.
abbrev AllRead : List ℕ → Type 0
AllRead bytes =
    (place : Place) (time next : ℕ) (values : List Bool) (all : List Moment) → length values ≡ wires → Fits place
    → read_from (reader_at place time next values) bytes ≡ gives all
    → Reads place time next values bytes all

-- ---- Bytes

-- The byte of a value.
value_byte : (b : ℕ) → is_value b ≡ true → b ≡ digit0 + bit (value_of b)
value_byte b e = by_tests (eqb b digit0) (eqb b (digit0 + 1)) refl refl e where
  by_tests : (s t : Bool) → eqb b digit0 ≡ s → eqb b (digit0 + 1) ≡ t → s || t ≡ true → b ≡ digit0 + bit t
  by_tests s true p q e = eqb-true b (digit0 + 1) q
  by_tests true false p q e = eqb-true b digit0 p
  by_tests false false p q e = absurd (false≢true e)

-- ---- Wires

-- A wire's value is told: the moment has it, and the wires before it are as they were.
module _ (time wire : ℕ) (value : Bool) (values : List Bool) (m : Moment) (told : Told time (suc wire) (set values wire value) m) where
  told_before : (i : ℕ) → i ≤ wire → Told time i values m
  told_before i h =
      record {
        same_time = told.same_time;
        same_values_lem =
            sym (take-take i (suc wire) m.values (omega arith))
            ∙ ap (take i) told.same_values_lem
            ∙ take-take i (suc wire) (set values wire value) (omega arith)
            ∙ take-set-le i values wire value h;
      }

  told_value : wire < length values → get_or m.values wire false ≡ value
  told_value h =
      sym (get_or-take (suc wire) m.values wire false (omega arith))
      ∙ ap (λ (l : List Bool). get_or l wire false) told.same_values_lem
      ∙ get_or-take (suc wire) (set values wire value) wire false (omega arith)
      ∙ get_or-set_same values wire value false h

  -- A first value: its line, and those of the wires after it.
  told_first : wire < length values → wire < length m.values
      → value_lines (first_code + wire) (drop wire m.values)
      ≡ (digit0 + bit value) ∷ (first_code + wire) ∷ lf ∷ value_lines (first_code + suc wire) (drop (suc wire) m.values)
  told_first h k = values_at first_code wire m.values k ∙ rw (told_value h)

  -- Changes pass over the wires that are as they were.
  changes_all : (i : ℕ) → i ≤ wire → changes_from first_code values m.values ≡ changes i values m
  changes_all i h = changes_past i first_code values m.values (sym (told_before i h).same_values_lem)

  -- A change: its line, and the changes of the wires after it.
  told_change : (next : ℕ) → next ≤ wire → wire < length values → wire < length m.values
      → differ (get_or values wire false) value ≡ true
      → changes next values m ≡ (digit0 + bit value) ∷ (first_code + wire) ∷ lf ∷ changes (suc wire) (set values wire value) m
  told_change next before h k other =
      let new : differ (get_or values wire false) (get_or m.values wire false) ≡ true = rw (told_value h) other in
      sym (changes_all next before) ∙ changes_all wire (omega arith) ∙ changes_at first_code wire values m.values h k new
      ∙ rw (told_value h, drop-set-lt (suc wire) values wire value (omega arith))

-- Behind the last wire no first value is left, and no change.
all_told : (next : ℕ) (values : List Bool) (m : Moment) (ms : List Moment) → length values ≤ next → length m.values ≤ next
    → closing_text ++ line_text next values m ms ≡ first_text next m ms
unfolding changes_from lines_from
all_told next values m ms h k = rw (drop_of_length-le values h, drop_of_length-le m.values k)

-- So behind a complete moment comes `#`, and then what is left of the next one.
next_moment : (next : ℕ) (values : List Bool) (m : Moment) (ms : List Moment) (time : ℕ) → 0 < length (changes 0 values m)
    → line_text next values (record { time = time; values = values }) (m ∷ ms) ≡ hash ∷ (line (decimal m.time) ++ line_text 0 values m ms)
unfolding later_text moment_text
next_moment next values m ms time some =
    rw (changes_none (first_code + next) (drop next values), is_timed m.time (changes 0 values m) some)
    (append_assoc (time_line m.time) (changes 0 values m) (later_text m.values ms))

-- ---- A fixed text

-- A byte of it stands in front of those behind it.
fixed_byte : (text : List ℕ) (at b : ℕ) (bytes rest : List ℕ) → ltb at (length text) && eqb b (get_or text at 0) ≡ true
    → bytes ≡ drop (suc at) text ++ rest
    → b ∷ bytes ≡ drop at text ++ rest
fixed_byte text at b bytes rest t e =
    let h = both_hold (ltb at (length text)) (eqb b (get_or text at 0)) t in
    rw (drop-cons text at 0 (ltb-true _ _ h.0), e, eqb-true b (get_or text at 0) h.1)

-- Behind the last byte nothing of it is left.
fixed_end : (text : List ℕ) (at : ℕ) (bytes rest : List ℕ) → eqb (suc at) (length text) ≡ true → bytes ≡ rest → bytes ≡ drop (suc at) text ++ rest
fixed_end text at bytes rest last e =
    let past : length text ≤ suc at = omega (arith, eqb-true (suc at) (length text) last) in
    rw (drop_of_length-le text past) e

-- ---- One byte, at each place

module _ (b : ℕ) (bytes : List ℕ) (on : AllRead bytes) (time next : ℕ) (values : List Bool) (all : List Moment) (size : length values ≡ wires) where
  -- What is left is this text and some rest.
  abbrev Before : List ℕ → (Moment → List Moment → List ℕ) → List ℕ → List Moment → Type 0
  Before text rest from all = ReadsAs (λ m ms. Told time next values m × (from ≡ text ++ rest m ms)) all

  -- A byte of a fixed text: `there` is behind its last, and `here` behind any other.
  fixed_step : (text : List ℕ) (at : ℕ) (rest : Moment → List Moment → List ℕ) (here there : Place)
      → (read_from (reader_at there time next values) bytes ≡ gives all → Before [] rest bytes all)
      → (read_from (reader_at here time next values) bytes ≡ gives all → Before (drop (suc at) text) rest bytes all)
      → read_from (cond (ltb at (length text) && eqb b (get_or text at 0)) (reader_at (cond (eqb (suc at) (length text)) there here) time next values)
      (reader_at Bad time next values)) bytes ≡ gives all
      → Before (drop at text) rest (b ∷ bytes) all
  fixed_step text at rest here there to_there to_here e = by_end (eqb (suc at) (length text)) refl taken.1 where
    taken : (ltb at (length text) && eqb b (get_or text at 0) ≡ true)
        × (read_from (reader_at (cond (eqb (suc at) (length text)) there here) time next values) bytes ≡ gives all)
    taken = taken_on _ _ (reader_at Line time next values) bytes all e

    by_end : (s : Bool) → eqb (suc at) (length text) ≡ s → read_from (reader_at (cond s there here) time next values) bytes ≡ gives all
        → Before (drop at text) rest (b ∷ bytes) all
    by_end true last e =
        same_moments (to_there e) (λ m ms s l. (l.0, fixed_byte text at b bytes (rest m ms) taken.0 (fixed_end text at bytes (rest m ms) last l.1)))
    by_end false last e = same_moments (to_here e) (λ m ms s l. (l.0, fixed_byte text at b bytes (rest m ms) taken.0 l.1))

  opening_byte : (at : ℕ) → read_from (reader_at (Opening at) time next values) (b ∷ bytes) ≡ gives all
      → Reads (Opening at) time next values (b ∷ bytes) all
  unfolding read_from complete begins byte_of at_opening
  opening_byte at e =
      fixed_step opening_text at (first_text next) (Opening (suc at)) FirstValue
      (on FirstValue time next values all size tt) (on (Opening (suc at)) time next values all size tt) e

  closing_byte : (at : ℕ) → read_from (reader_at (Closing at) time next values) (b ∷ bytes) ≡ gives all
      → Reads (Closing at) time next values (b ∷ bytes) all
  unfolding read_from complete begins byte_of at_closing
  closing_byte at e =
      fixed_step closing_text at (line_text next values) (Closing (suc at)) Line
      (λ e. same_moments (on Line time next values all size tt e) (λ m ms s l. (l.0, l.1)))
      (on (Closing (suc at)) time next values all size tt) e

  -- The value of the next wire at time 0, its code, and LF.
  first_value : read_from (reader_at FirstValue time next values) (b ∷ bytes) ≡ gives all → Reads FirstValue time next values (b ∷ bytes) all
  unfolding read_from complete begins byte_of at_first_value
  first_value e =
      let t = taken_on (is_value b && ltb next wires) _ (reader_at FirstValue time next values) bytes all e in
      let h = both_hold (is_value b) (ltb next wires) t.0 in
      let due : next < wires = ltb-true next wires h.1 in
      let code : first_code + suc next - 1 ≡ first_code + next = omega arith in
      same_moments (on FirstCode time (suc next) (set values next (value_of b)) all (length-set values next (value_of b) ∙ size) tt t.1)
      (λ m ms s l. (
        told_before time next (value_of b) values m l.0 next (omega arith),
        rw (told_first time next (value_of b) values m l.0 (omega arith) (omega arith), ← value_byte b h.0, l.1, code),
      ))

  first_code_lem : read_from (reader_at FirstCode time next values) (b ∷ bytes) ≡ gives all → Reads FirstCode time next values (b ∷ bytes) all
  unfolding read_from complete begins byte_of at_first_code
  first_code_lem e =
      let t = taken_on (leb first_code b && eqb (suc (wire_of b)) next) _ (reader_at FirstCode time next values) bytes all e in
      let h = both_hold (leb first_code b) (eqb (suc (wire_of b)) next) t.0 in
      let code : first_code + next - 1 ≡ b = omega (arith, leb-true first_code b h.0, eqb-true (suc (wire_of b)) next h.1) in
      same_moments (on FirstEnd time next values all size tt t.1) (λ m ms s l. (l.0, rw (code, l.1)))

  first_end : read_from (reader_at FirstEnd time next values) (b ∷ bytes) ≡ gives all → Reads FirstEnd time next values (b ∷ bytes) all
  unfolding read_from complete begins byte_of at_first_end
  first_end e = by_wire (eqb-true b lf taken.0) (ltb next wires) refl taken.1 where
    taken : (eqb b lf ≡ true) × (read_from (reader_at (cond (ltb next wires) FirstValue (Closing 0)) time next values) bytes ≡ gives all)
    taken = taken_on (eqb b lf) _ (reader_at FirstEnd time next values) bytes all e

    by_wire : b ≡ lf → (s : Bool) → ltb next wires ≡ s → read_from (reader_at (cond s FirstValue (Closing 0)) time next values) bytes ≡ gives all
        → Reads FirstEnd time next values (b ∷ bytes) all
    by_wire same true due e = same_moments (on FirstValue time next values all size tt e) (λ m ms s l. (l.0, rw (same, l.1)))
    by_wire same false over e =
        let past : wires ≤ next = ltb-false next wires over in
        same_moments (on (Closing 0) time next values all size tt e)
        (λ m ms s l. (l.0, rw (same, l.1, all_told next values m ms (omega arith) (omega arith))))

  -- At the start of a line: `#` gives the moment under way, and the others are read from there; a value leads on.
  after_hash : (others : List Moment) → 0 < next → read_from (reader_at (Time 0) time next values) bytes ≡ gives others
      → Reads Line time next values (hash ∷ bytes) (record { time = time; values = values } ∷ others)
  after_hash others told e =
      let k = on (Time 0) time next values others size (omega arith) e in
      let follows = k.left.0 in
      record {
        now = record { time = time; values = values };
        later = k.now ∷ k.later;
        are = ap (λ (l : List Moment). record { time = time; values = values } ∷ l) k.are;
        size = size;
        rises = (follows.above, follows.below, k.size, k.rises);
        left = (
          record { same_time = refl; same_values_lem = refl },
          rw (next_moment next values k.now k.later time follows.some) (ap (λ (l : List ℕ). hash ∷ l) k.left.1),
          omega arith,
        );
      }

  value_line : read_from (cond (is_value b) (reader_at (Code (value_of b)) time next values) (reader_at Bad time next values)) bytes ≡ gives all
      → Reads Line time next values (b ∷ bytes) all
  value_line e =
      let t = taken_on (is_value b) _ (reader_at Line time next values) bytes all e in
      same_moments (on (Code (value_of b)) time next values all size tt t.1)
      (λ m ms s l. (l.0, rw (value_byte b t.0) l.1, omega (arith, l.2)))

  line_byte : read_from (reader_at Line time next values) (b ∷ bytes) ≡ gives all → Reads Line time next values (b ∷ bytes) all
  unfolding read_from complete begins byte_of at_line
  line_byte e = by_test (eqb b hash && ltb 0 next) refl (rw (and_comm (ltb 0 next) (eqb b hash)) at e) where
    other : Reader
    other = cond (is_value b) (reader_at (Code (value_of b)) time next values) (reader_at Bad time next values)

    by_answer : (answer : Answer (List Moment)) → read_from (reader_at (Time 0) time next values) bytes ≡ answer → b ≡ hash → 0 < next
        → before (record { time = time; values = values }) answer ≡ gives all
        → Reads Line time next values (b ∷ bytes) all
    by_answer (gives others) q same told e =
        let each : record { time = time; values = values } ∷ others ≡ all = cc in
        rw (same, ← each) (after_hash others told q)
    by_answer (refuses n) q same told e = refusal_gives_nothing e

    by_test : (t : Bool) → eqb b hash && ltb 0 next ≡ t
        → cond t (before (record { time = time; values = values }) (read_from (cond t (reader_at (Time 0) time next values) other) bytes))
        (read_from (cond t (reader_at (Time 0) time next values) other) bytes)
        ≡ gives all
        → Reads Line time next values (b ∷ bytes) all
    by_test true t e =
        let h = both_hold (eqb b hash) (ltb 0 next) t in
        by_answer (read_from (reader_at (Time 0) time next values) bytes) refl (eqb-true b hash h.0) (ltb-true 0 next h.1) e
    by_test false t e = value_line e

  -- In a time: a digit stands behind those before it, and LF behind the last.
  digit_byte : (n : ℕ) → is_digit b && (ltb 0 (with_digit n b) && ltb (with_digit n b) (2 ^ 64)) ≡ true
      → read_from (reader_at (Time (with_digit n b)) time next values) bytes ≡ gives all
      → Reads (Time n) time next values (b ∷ bytes) all
  digit_byte n t e =
      let h = both_hold (is_digit b) (ltb 0 (with_digit n b) && ltb (with_digit n b) (2 ^ 64)) t in
      let byte = both_hold (leb digit0 b) (leb b (digit0 + 9)) h.0 in
      let size' = both_hold (ltb 0 (with_digit n b)) (ltb (with_digit n b) (2 ^ 64)) h.1 in
      let low = leb-true digit0 b byte.0 in
      let high = leb-true b (digit0 + 9) byte.1 in
      let some = ltb-true 0 (with_digit n b) size'.0 in
      let fits = ltb-true (with_digit n b) (2 ^ 64) size'.1 in
      same_moments (on (Time (with_digit n b)) time next values all size fits e)
      (λ m ms s l. (l.0, sym (append_snoc (digits_of n) b bytes) ∙ rw (← one_more_digit n b low high some fits) l.1))

  time_end : (n : ℕ) → n < 2 ^ 64 → eqb b lf && ltb time n ≡ true → read_from (reader_at Line n 0 values) bytes ≡ gives all
      → Reads (Time n) time next values (b ∷ bytes) all
  time_end n fits t e =
      let h = both_hold (eqb b lf) (ltb time n) t in
      let above = ltb-true time n h.1 in
      same_moments (on Line n 0 values all size tt e)
      (λ m ms s l. (
        record { above = omega (arith, l.0.same_time); below = omega (arith, l.0.same_time); some = omega (arith, l.2) },
        rw (digits_are n (omega arith), eqb-true b lf h.0, l.0.same_time, l.1) (sym (append_snoc (decimal n) lf (line_text 0 values m ms))),
      ))

  time_byte : (n : ℕ) → n < 2 ^ 64 → read_from (reader_at (Time n) time next values) (b ∷ bytes) ≡ gives all
      → Reads (Time n) time next values (b ∷ bytes) all
  unfolding read_from complete begins byte_of at_time
  time_byte n fits e = by_test (is_digit b && (ltb 0 (with_digit n b) && ltb (with_digit n b) (2 ^ 64))) refl e where
    by_test : (t : Bool) → is_digit b && (ltb 0 (with_digit n b) && ltb (with_digit n b) (2 ^ 64)) ≡ t
        → read_from (cond t (reader_at (Time (with_digit n b)) time next values)
        (cond (eqb b lf && ltb time n) (reader_at Line n 0 values) (reader_at Bad time next values))) bytes ≡ gives all
        → Reads (Time n) time next values (b ∷ bytes) all
    by_test true t e = digit_byte n t e
    by_test false t e =
        let k = taken_on (eqb b lf && ltb time n) _ (reader_at (Time n) time next values) bytes all e in
        time_end n fits k.0 k.1

  -- Behind a value: the code of a wire that changes to it, and LF.
  code_byte : (value : Bool) → read_from (reader_at (Code value) time next values) (b ∷ bytes) ≡ gives all
      → Reads (Code value) time next values (b ∷ bytes) all
  unfolding read_from complete begins byte_of at_code
  code_byte value e =
      let w = wire_of b in
      let t = taken_on
      (leb first_code b && (leb next w && (ltb w wires && differ (get_or values w false) value))) _ (reader_at End time next values) bytes all e in
      let h = both_hold (leb first_code b) _ t.0 in
      let i = both_hold (leb next w) _ h.1 in
      let j = both_hold (ltb w wires) _ i.1 in
      let code : first_code + w ≡ b = omega (arith, leb-true first_code b h.0) in
      let past : next ≤ w = leb-true next w i.0 in
      let wired : w < wires = ltb-true w wires j.0 in
      same_moments (on End time (suc w) (set values w value) all (length-set values w value ∙ size) tt t.1)
      (λ m ms s l.
      let c = told_change time w value values m l.0 next past (omega arith) (omega arith) j.1 in
      (told_before time w value values m l.0 next past, rw (c, l.1, code), rw c (omega arith)))

  end_byte : read_from (reader_at End time next values) (b ∷ bytes) ≡ gives all → Reads End time next values (b ∷ bytes) all
  unfolding read_from complete begins byte_of at_end
  end_byte e =
      let t = taken_on (eqb b lf) _ (reader_at End time next values) bytes all e in
      same_moments (on Line time next values all size tt t.1) (λ m ms s l. (l.0, rw (eqb-true b lf t.0, l.1)))

  -- Whatever the place.
  one_byte : (place : Place) → Fits place → read_from (reader_at place time next values) (b ∷ bytes) ≡ gives all
      → Reads place time next values (b ∷ bytes) all
  one_byte (Opening at) fits e = opening_byte at e
  one_byte FirstValue fits e = first_value e
  one_byte FirstCode fits e = first_code_lem e
  one_byte FirstEnd fits e = first_end e
  one_byte (Closing at) fits e = closing_byte at e
  one_byte Line fits e = line_byte e
  one_byte (Time n) fits e = time_byte n fits e
  one_byte (Code value) fits e = code_byte value e
  one_byte End fits e = end_byte e
  one_byte Bad fits e = refusal_gives_nothing (sym (bad_refuses time next values (b ∷ bytes)) ∙ e)

-- ---- All bytes

-- At the end a moment is complete, and nothing of it is left.
last_moment : (time next : ℕ) (values : List Bool) (all : List Moment) → length values ≡ wires
    → read_from (reader_at Line time next values) [] ≡ gives all
    → Reads Line time next values [] all
unfolding read_from complete later_text
last_moment time next values all size e = by_test (ltb 0 next) refl e where
  by_test : (t : Bool) → ltb 0 next ≡ t → cond t (gives (record { time = time; values = values } ∷ [])) (refuses 9) ≡ gives all
      → Reads Line time next values [] all
  by_test true t e = record {
    now = record { time = time; values = values };
    later = [];
    are = cc;
    size = size;
    rises = tt;
    left = (
      record { same_time = refl; same_values_lem = refl },
      rw (changes_none (first_code + next) (drop next values)),
      omega (arith, ltb-true 0 next t),
    );
  }
  by_test false t e = refusal_gives_nothing e

at_the_end : AllRead []
unfolding read_from complete
at_the_end (Opening at) time next values all size fits e = refusal_gives_nothing e
at_the_end FirstValue time next values all size fits e = refusal_gives_nothing e
at_the_end FirstCode time next values all size fits e = refusal_gives_nothing e
at_the_end FirstEnd time next values all size fits e = refusal_gives_nothing e
at_the_end (Closing at) time next values all size fits e = refusal_gives_nothing e
at_the_end Line time next values all size fits e = last_moment time next values all size e
at_the_end (Time n) time next values all size fits e = refusal_gives_nothing e
at_the_end (Code value) time next values all size fits e = refusal_gives_nothing e
at_the_end End time next values all size fits e = refusal_gives_nothing e
at_the_end Bad time next values all size fits e = refusal_gives_nothing e

all_read : (bytes : List ℕ) → AllRead bytes
all_read [] = at_the_end
all_read (b ∷ bytes) =
    λ place time next values all size fits e. one_byte b bytes (all_read bytes) time next values all size place fits e

-- ---- A whole dump

-- What is left before the first byte is the whole dump.
whole_dump : (m : Moment) (ms : List Moment) → opening_text ++ first_text 0 m ms ≡ dump_of (m ∷ ms)
unfolding dump_of head_text
whole_dump m ms = simp append_assoc

-- What is read is what is written for it: the moments rise from time 0, and their dump is these bytes.
pub read_is_written : (bytes : List ℕ) (ms : List Moment) → read_of bytes ≡ gives ms → Rising ms × (dump_of ms ≡ bytes)
unfolding read_of new_reader
read_is_written bytes ms e =
    let k = all_read bytes (Opening 0) 0 0 (replicate wires false) ms (length-replicate wires false) tt e in
    let first : k.now.time ≡ 0 = k.left.0.same_time in
    subst (λ (all : List Moment). Rising all × (dump_of all ≡ bytes)) (sym k.are)
    ((first, k.size, rw first at k.rises), sym (k.left.1 ∙ whole_dump k.now k.later))

-- A refusal is 9.
refuses_only : (bytes : List ℕ) (r : Reader) (n : ℕ) → read_from r bytes ≡ refuses n → n ≡ 9
unfolding read_from
refuses_only [] r n e = by_test (complete r) e where
  by_test : (t : Bool) → cond t (gives (moment_of r ∷ [])) (refuses 9) ≡ refuses n → n ≡ 9
  by_test true e = refusal_gives_nothing (sym e)
  by_test false e = cc
refuses_only (b ∷ bytes) r n e = by_test (begins r b) (read_from (byte_of r b) bytes) (refuses_only bytes (byte_of r b) n) e where
  by_test : (t : Bool) (answer : Answer (List Moment)) → (answer ≡ refuses n → n ≡ 9) → cond t (before (moment_of r) answer) answer ≡ refuses n → n ≡ 9
  by_test true (gives ms) nine e = refusal_gives_nothing (sym e)
  by_test true (refuses k) nine e = nine e
  by_test false answer nine e = nine e

pub refuses_nine : (bytes : List ℕ) (n : ℕ) → read_of bytes ≡ refuses n → n ≡ 9
unfolding read_of
refuses_nine bytes n e = refuses_only bytes new_reader n e

-- Bytes that are the dump of no moments are refused with 9.
pub no_dump_is_nine : (bytes : List ℕ) → ((ms : List Moment) → Rising ms → dump_of ms ≡ bytes → ⊥) → read_of bytes ≡ refuses 9
no_dump_is_nine bytes none = by_answer (read_of bytes) refl where
  by_answer : (answer : Answer (List Moment)) → read_of bytes ≡ answer → answer ≡ refuses 9
  by_answer (gives ms) e = let w = read_is_written bytes ms e in absurd (none ms w.0 w.1)
  by_answer (refuses n) e = rw (refuses_nine bytes n e)

-- And what is written is read back, so 9 is exactly for what the writer writes for no moments.
pub nine_exactly : (bytes : List ℕ) → (read_of bytes ≡ refuses 9) ↔ ((ms : List Moment) → Rising ms → dump_of ms ≡ bytes → ⊥)
nine_exactly bytes =
    (λ e ms rising same. refusal_gives_nothing (sym e ∙ ap read_of (sym same) ∙ written_is_read ms rising), no_dump_is_nine bytes)
