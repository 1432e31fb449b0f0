-- What the writer writes is read back: each piece of a dump leads the reader on to the place behind it, whatever follows. So
-- reading a dump gives the moments of which it was written, without those at which nothing changes; and those have the values of
-- all the others, at every time.
-- Assumes nothing.
use Prim.Native.Nat.{ℕ, zero, suc, ◌+◌, ◌-◌, ◌*◌, ◌/◌, ◌%◌, ◌^◌, ◌<◌, ◌≤◌}
use native.Mathlib.Omega.{arith}
use mathlib.Core.Bool.{Bool, true, false, cond, and-false, true≢false}
use mathlib.Core.List.{List, [], ◌∷◌, ◌++◌, append_assoc}
use mathlib.Core.Path.{◌≡◌, refl, sym, ap, ◌∙◌}
use borrow.Author.Tests.{lt-ltb, le-leb, lt-leb, eq-eqb, ne_eqb, ltb-true, ltb-false, leb-false}
use lib.Dec.{ltb, leb}
use lib.ListN.{length, drop, get_or, set, replicate, length-append, length-replicate, drop_of_length-le}
use lib.Seq.{drop-cons, append_snoc, set_at, get_or_at}
use Rattle.common.specs.Answers.{Answer, gives}
use Rattle.common.specs.Ascii.{lf}
use Rattle.common.specs.Bits.{bit}
use Rattle.common.specs.Decimal.{digit0, decimal, decimal_up_to}
use Rattle.common.proofs.Decimals.{tenth, one_digit, last_digit}
use Rattle.dump.specs.Wires.{wires, first_code}
use Rattle.dump.specs.Dumps.{
  Moment,
  RisesFrom,
  Rising,
  line,
  hash,
  lines_from,
  opening_text,
  closing_text,
  value_line,
  value_lines,
  head_text,
  differ,
  changes_from,
  time_line,
  moment_text,
  later_text,
  dump_of,
}
use Rattle.readback.specs.declared.Place.{Place}
use Rattle.readback.specs.declared.Place.TheVariants.{Opening, FirstValue, FirstCode, FirstEnd, Closing, Line, Time, Code, End}
use Rattle.readback.specs.Bytes.{
  new_reader,
  wire_of,
  at_opening,
  at_first_value,
  at_first_code,
  at_first_end,
  at_closing,
  at_line,
  at_time,
  at_code,
  at_end,
  at_text,
  byte_of,
}
use Rattle.readback.specs.Reads.{complete, begins, before, read_from, read_of}
use Rattle.readback.specs.Values.{values_from, values_at, same_values, shown_after, shown}
use Rattle.dump.proofs.Lines.{opening_length_lem, closing_length_lem, is_timed}
use Rattle.readback.proofs.Places.{reader_at}
use Rattle.readback.proofs.Lines.{
  not_other,
  same_equal,
  changes_none,
  changes_some,
  rises_sooner,
}

-- What is read of some bytes from a place on, with the time and the values of the moment under way and the first wire that may follow.
abbrev read_at : Place → ℕ → ℕ → List Bool → List ℕ → Answer (List Moment)
read_at place time next values bytes = read_from (reader_at place time next values) bytes

-- ---- Fixed texts

-- A text of which each byte comes to what `at_text` says is read over from each place on.
module _ (text : List ℕ) (on : ℕ → Place) (behind : Place) (time next : ℕ) (values : List Bool)
    (leads : (at b : ℕ) (bytes : List ℕ)
    → read_at (on at) time next values (b ∷ bytes) ≡ read_from (at_text text on behind (reader_at (on at) time next values) at b) bytes) where
  text_read : (left at : ℕ) (rest : List ℕ) → at + suc left ≡ length text
      → read_at (on at) time next values (drop at text ++ rest) ≡ read_at behind time next values rest
  text_read zero at rest h =
      let last : suc at ≡ length text = omega arith in
      let past : length text ≤ suc at = omega arith in
      rw (
        drop-cons text at 0 (omega arith),
        drop_of_length-le text past,
        leads at (get_or text at 0) rest,
        lt-ltb at (length text) (omega arith),
        eq-eqb (get_or text at 0) (get_or text at 0) refl,
        eq-eqb (suc at) (length text) last,
      )
  text_read (suc left) at rest h =
      let more : suc at ≡ length text → ⊥ = λ e. omega arith in
      rw (
        drop-cons text at 0 (omega arith),
        leads at (get_or text at 0) (drop (suc at) text ++ rest),
        lt-ltb at (length text) (omega arith),
        eq-eqb (get_or text at 0) (get_or text at 0) refl,
        ne_eqb (suc at) (length text) more,
      )
      (text_read left (suc at) rest (omega arith))

-- What every dump begins with leads to the first value.
opening_read : (time next : ℕ) (values : List Bool) (rest : List ℕ)
    → read_at (Opening 0) time next values (opening_text ++ rest) ≡ read_at FirstValue time next values rest
unfolding read_from begins complete byte_of at_opening
opening_read time next values rest =
    text_read opening_text Opening FirstValue time next values (λ at b bytes. refl) (length opening_text - 1) 0 rest (omega (arith, opening_length_lem))

-- What follows the first values leads to the lines behind the head.
closing_read : (time next : ℕ) (values : List Bool) (rest : List ℕ)
    → read_at (Closing 0) time next values (closing_text ++ rest) ≡ read_at Line time next values rest
unfolding read_from begins complete byte_of at_closing
closing_read time next values rest =
    text_read closing_text Closing Line time next values (λ at b bytes. refl) (length closing_text - 1) 0 rest (omega (arith, closing_length_lem))

-- ---- The first values

-- The value of the next wire.
first_value : (value : Bool) (time next : ℕ) (values : List Bool) (bytes : List ℕ) → next < wires
    → read_at FirstValue time next values ((digit0 + bit value) ∷ bytes)
    ≡ read_at FirstCode time (suc next) (set values next value) bytes
unfolding read_from begins complete byte_of at_first_value
first_value true time next values bytes h = rw (lt-ltb next wires h)
first_value false time next values bytes h = rw (lt-ltb next wires h)

-- Its code.
first_code_lem : (code time wire : ℕ) (values : List Bool) (bytes : List ℕ) → code ≡ first_code + wire
    → read_at FirstCode time (suc wire) values (code ∷ bytes) ≡ read_at FirstEnd time (suc wire) values bytes
unfolding read_from begins complete byte_of at_first_code
first_code_lem code time wire values bytes h =
    let low : first_code ≤ code = omega arith in
    let same : suc (wire_of code) ≡ suc wire = omega arith in
    rw (le-leb first_code code low, eq-eqb (suc (wire_of code)) (suc wire) same)

-- Where the next wire's value is due, or where every wire has been told.
abbrev due : ℕ → Place
due next = cond (ltb next wires) FirstValue (Closing 0)

-- The end of its line.
first_end : (time next : ℕ) (values : List Bool) (bytes : List ℕ)
    → read_at FirstEnd time next values (lf ∷ bytes) ≡ read_at (due next) time next values bytes
unfolding read_from begins complete byte_of at_first_end
first_end time next values bytes = refl

-- All three: behind what is told, the wire's value is told too.
first_line : (value : Bool) (code time wire : ℕ) (told : List Bool) (was : Bool) (others : List Bool) (bytes : List ℕ)
    → code ≡ first_code + wire
    → length told ≡ wire
    → wire < wires
    → read_at (due wire) time wire (told ++ was ∷ others) (value_line code value ++ bytes)
    ≡ read_at (due (suc wire)) time (suc wire) (told ++ value ∷ others) bytes
first_line value code time wire told was others bytes h at below =
    rw (lt-ltb wire wires below)
    (first_value value time wire (told ++ was ∷ others) (code ∷ lf ∷ bytes) below
    ∙ first_code_lem code time wire (set (told ++ was ∷ others) wire value) (lf ∷ bytes) h
    ∙ first_end time (suc wire) (set (told ++ was ∷ others) wire value) bytes
    ∙ rw (set_at told was others value wire at))

-- One more is told.
one_more : (told : List Bool) (value : Bool) (wire : ℕ) → length told ≡ wire → length (told ++ value ∷ []) ≡ suc wire
one_more told value wire h = simp length-append (omega arith)

-- The values of the wires from one on lead behind the last.
first_values : (olds news : List Bool) (code time wire : ℕ) (told : List Bool) (rest : List ℕ)
    → code ≡ first_code + wire
    → length told ≡ wire
    → length olds ≡ length news
    → wire + length news ≡ wires
    → read_at (due wire) time wire (told ++ olds) (value_lines code news ++ rest) ≡ read_at (Closing 0) time wires (told ++ news) rest
unfolding lines_from
first_values [] [] code time wire told rest h at long all = let last : wire ≡ wires = omega arith in rw last
first_values [] (new ∷ news) code time wire told rest h at long all = absurd (omega arith)
first_values (old ∷ olds) [] code time wire told rest h at long all = absurd (omega arith)
first_values (old ∷ olds) (new ∷ news) code time wire told rest h at long all =
    rw (append_assoc (value_line code new) (value_lines (suc code) news) rest)
    (first_line new code time wire told old olds (value_lines (suc code) news ++ rest) h at (omega arith)
    ∙ rw (← append_snoc told new olds, ← append_snoc told new news)
    (first_values olds news (suc code) time (suc wire) (told ++ new ∷ []) rest (omega arith) (one_more told new wire at)
    (omega arith) (omega arith)))

-- The head leads to the lines behind it, with every wire told.
head_read : (values : List Bool) (rest : List ℕ) → length values ≡ wires
    → read_from new_reader (head_text values ++ rest) ≡ read_at Line 0 wires values rest
unfolding new_reader head_text
head_read values rest h =
    let none : List Bool = replicate wires false in
    rw (
      append_assoc (opening_text ++ value_lines first_code values) closing_text rest,
      append_assoc opening_text (value_lines first_code values) (closing_text ++ rest),
    )
    (opening_read 0 0 none (value_lines first_code values ++ (closing_text ++ rest))
    ∙ first_values none values first_code 0 0 [] (closing_text ++ rest) refl refl (omega (arith, length-replicate wires false)) (omega arith)
    ∙ closing_read 0 wires values rest)

-- ---- Changes

-- The value of a wire that changes.
change_value : (value : Bool) (time next : ℕ) (values : List Bool) (bytes : List ℕ)
    → read_at Line time next values ((digit0 + bit value) ∷ bytes) ≡ read_at (Code value) time next values bytes
unfolding read_from begins complete byte_of at_line
change_value true time next values bytes = rw (and-false (ltb 0 next))
change_value false time next values bytes = rw (and-false (ltb 0 next))

-- Its code.
change_code : (value : Bool) (code time next wire : ℕ) (values : List Bool) (bytes : List ℕ)
    → code ≡ first_code + wire
    → next ≤ wire
    → wire < wires
    → differ (get_or values wire false) value ≡ true
    → read_at (Code value) time next values (code ∷ bytes) ≡ read_at End time (suc wire) (set values wire value) bytes
unfolding read_from begins complete byte_of at_code
change_code value code time next wire values bytes h after below other =
    let low : first_code ≤ code = omega arith in
    let same : wire_of code ≡ wire = omega arith in
    rw (le-leb first_code code low, same, le-leb next wire after, lt-ltb wire wires below, other)

-- The end of its line.
change_end : (time next : ℕ) (values : List Bool) (bytes : List ℕ)
    → read_at End time next values (lf ∷ bytes) ≡ read_at Line time next values bytes
unfolding read_from begins complete byte_of at_end
change_end time next values bytes = refl

-- All three: the wire has its new value, and the next is one after it.
change_read : (new old : Bool) (code time next wire : ℕ) (told others : List Bool) (bytes : List ℕ)
    → code ≡ first_code + wire
    → length told ≡ wire
    → next ≤ wire
    → wire < wires
    → differ old new ≡ true
    → read_at Line time next (told ++ old ∷ others) (value_line code new ++ bytes)
    ≡ read_at Line time (suc wire) (told ++ new ∷ others) bytes
change_read new old code time next wire told others bytes h at after below other =
    change_value new time next (told ++ old ∷ others) (code ∷ lf ∷ bytes)
    ∙ change_code new code time next wire (told ++ old ∷ others) (lf ∷ bytes) h after below
    (rw (get_or_at told old others false wire at) other)
    ∙ change_end time (suc wire) (set (told ++ old ∷ others) wire new) bytes
    ∙ rw (set_at told old others new wire at)

-- The wire after the last that changes, or `next` where none does; the first of these is `wire`.
after_last : ℕ → ℕ → List Bool → List Bool → ℕ
after_last next wire [] news = next
after_last next wire (old ∷ olds) [] = next
after_last next wire (old ∷ olds) (new ∷ news) = after_last (cond (differ old new) (suc wire) next) (suc wire) olds news

-- The changes of the wires from one on give these their new values.
changes_read : (olds news : List Bool) (code time next wire : ℕ) (told : List Bool) (rest : List ℕ)
    → code ≡ first_code + wire
    → length told ≡ wire
    → next ≤ wire
    → length olds ≡ length news
    → wire + length news ≡ wires
    → read_at Line time next (told ++ olds) (changes_from code olds news ++ rest)
    ≡ read_at Line time (after_last next wire olds news) (told ++ news) rest
unfolding changes_from after_last
changes_read [] [] code time next wire told rest h at after long all = refl
changes_read [] (new ∷ news) code time next wire told rest h at after long all = absurd (omega arith)
changes_read (old ∷ olds) [] code time next wire told rest h at after long all = absurd (omega arith)
changes_read (old ∷ olds) (new ∷ news) code time next wire told rest h at after long all =
    by_test (differ old new) refl
    (λ next' after'. changes_read olds news (suc code) time next' (suc wire) (told ++ new ∷ []) rest (omega arith)
    (one_more told new wire at) after' (omega arith) (omega arith)) where
      by_test : (t : Bool) → differ old new ≡ t
          → ((next' : ℕ) → next' ≤ suc wire
          → read_at Line time next' (told ++ new ∷ [] ++ olds) (changes_from (suc code) olds news ++ rest)
          ≡ read_at Line time (after_last next' (suc wire) olds news) (told ++ new ∷ [] ++ news) rest)
          → read_at Line time next (told ++ old ∷ olds) (cond t (value_line code new) [] ++ changes_from (suc code) olds news ++ rest)
          ≡ read_at Line time (after_last (cond t (suc wire) next) (suc wire) olds news) (told ++ new ∷ news) rest
      by_test true other on =
          change_read new old code time next wire told olds (changes_from (suc code) olds news ++ rest) h at after (omega arith) other
          ∙ rw (← append_snoc told new olds, ← append_snoc told new news) (on (suc wire) (omega arith))
      by_test false other on =
          rw (not_other old new other, ← append_snoc told new olds, ← append_snoc told new news) (on next (omega arith))

-- Where something was told, something is told behind the changes.
after_kept : (olds news : List Bool) (next wire : ℕ) → 0 < next → 0 < after_last next wire olds news
unfolding after_last
after_kept [] news next wire some = some
after_kept (old ∷ olds) [] next wire some = some
after_kept (old ∷ olds) (new ∷ news) next wire some = after_kept olds news _ (suc wire) (by_test (differ old new)) where
  by_test : (t : Bool) → 0 < cond t (suc wire) next
  by_test true = omega arith
  by_test false = some

-- And so it is where the values are not the same.
after_other : (olds news : List Bool) (next wire : ℕ) → length olds ≡ length news → same_values olds news ≡ false
    → 0 < after_last next wire olds news
unfolding after_last same_values
after_other [] [] next wire h e = absurd (true≢false e)
after_other [] (new ∷ news) next wire h e = absurd (omega arith)
after_other (old ∷ olds) [] next wire h e = absurd (omega arith)
after_other (old ∷ olds) (new ∷ news) next wire h e =
    by_test (differ old new) (after_other olds news next (suc wire) (omega arith)) e where
      by_test : (t : Bool) → (same_values olds news ≡ false → 0 < after_last next (suc wire) olds news)
          → cond t false (same_values olds news) ≡ false
          → 0 < after_last (cond t (suc wire) next) (suc wire) olds news
      by_test true others e' = after_kept olds news (suc wire) (suc wire) (omega arith)
      by_test false others e' = others e'

-- ---- Times

-- A digit leads on.
digit_read : (n d time next : ℕ) (values : List Bool) (bytes : List ℕ) → d < 10 → 0 < n * 10 + d → n * 10 + d < 2 ^ 64
    → read_at (Time n) time next values ((digit0 + d) ∷ bytes) ≡ read_at (Time (n * 10 + d)) time next values bytes
unfolding read_from begins complete byte_of at_time
digit_read n d time next values bytes h some fits =
    let low : digit0 ≤ digit0 + d = omega arith in
    let high : digit0 + d ≤ digit0 + 9 = omega arith in
    let same : digit0 + d - digit0 ≡ d = omega arith in
    simp (le-leb _ _ low, le-leb _ _ high, same, lt-ltb _ _ some, lt-ltb _ _ fits)

-- The digits of a number are read as that number.
digits_read : (k n time next : ℕ) (values : List Bool) (bytes : List ℕ) → n < 10 ^ k → 0 < n → n < 2 ^ 64
    → read_at (Time 0) time next values (decimal_up_to k n ++ bytes) ≡ read_at (Time n) time next values bytes
digits_read zero n time next values bytes h some fits = absurd (omega arith)
digits_read (suc k) n time next values bytes h some fits =
    by_size (ltb n 10) refl
    (λ more. digits_read k (n / 10) time next values ((digit0 + n % 10) ∷ bytes) (tenth k n h) (omega arith) (omega arith)) where
      whole : n / 10 * 10 + n % 10 ≡ n
      whole = omega arith

      alone : 0 * 10 + n ≡ n
      alone = omega arith

      by_size : (t : Bool) → ltb n 10 ≡ t
          → (10 ≤ n
          → read_at (Time 0) time next values (decimal_up_to k (n / 10) ++ (digit0 + n % 10) ∷ bytes)
          ≡ read_at (Time (n / 10)) time next values ((digit0 + n % 10) ∷ bytes))
          → read_at (Time 0) time next values (decimal_up_to (suc k) n ++ bytes) ≡ read_at (Time n) time next values bytes
      by_size true e tenths =
          let small : n < 10 = ltb-true n 10 e in
          rw (one_digit k n small) (digit_read 0 n time next values bytes small (omega arith) (omega arith) ∙ rw alone)
      by_size false e tenths =
          let great : 10 ≤ n = ltb-false n 10 e in
          rw (last_digit k n great, append_snoc (decimal_up_to k (n / 10)) (digit0 + n % 10) bytes)
          (tenths great ∙ digit_read (n / 10) (n % 10) time next values bytes (omega arith) (omega arith) (omega arith) ∙ rw whole)

-- `#` gives the moment before, where that is complete.
hash_read : (time next : ℕ) (values : List Bool) (bytes : List ℕ) → 0 < next
    → read_at Line time next values (hash ∷ bytes)
    ≡ before (record { time = time; values = values }) (read_at (Time 0) time next values bytes)
unfolding read_from begins complete byte_of at_line
hash_read time next values bytes some = rw (lt-ltb 0 next some)

-- LF behind a time that is above the last begins its changes.
time_end : (n time next : ℕ) (values : List Bool) (bytes : List ℕ) → time < n
    → read_at (Time n) time next values (lf ∷ bytes) ≡ read_at Line n 0 values bytes
unfolding read_from begins complete byte_of at_time
time_end n time next values bytes above = rw (lt-ltb time n above)

-- A number and LF.
number_read : (n time next : ℕ) (values : List Bool) (bytes : List ℕ) → time < n → n < 2 ^ 64
    → read_at (Time 0) time next values (line (decimal n) ++ bytes) ≡ read_at Line n 0 values bytes
unfolding decimal
number_read n time next values bytes above fits =
    rw (append_snoc (decimal n) lf bytes)
    (digits_read 20 n time next values (lf ∷ bytes) (omega arith) (omega arith) fits ∙ time_end n time next values bytes above)

-- All of a time's line.
time_read : (n time next : ℕ) (values : List Bool) (bytes : List ℕ) → 0 < next → time < n → n < 2 ^ 64
    → read_at Line time next values (time_line n ++ bytes) ≡ before (record { time = time; values = values }) (read_at Line n 0 values bytes)
time_read n time next values bytes some above fits =
    hash_read time next values (line (decimal n) ++ bytes) some
    ∙ ap (before (record { time = time; values = values })) (number_read n time next values bytes above fits)

-- ---- Moments

-- A moment at which something changes gives the one before it, and is under way behind its text.
moment_read : (m : Moment) (time next : ℕ) (values : List Bool) (rest : List ℕ) → 0 < next → time < m.time → m.time < 2 ^ 64
    → length values ≡ wires
    → length m.values ≡ wires
    → same_values values m.values ≡ false
    → read_at Line time next values (moment_text values m ++ rest)
    ≡ before (record { time = time; values = values }) (read_at Line m.time (after_last 0 0 values m.values) m.values rest)
unfolding moment_text
moment_read m time next values rest some above fits h h' other =
    let changes = changes_from first_code values m.values in
    rw (
      is_timed m.time changes (changes_some first_code values m.values (h ∙ sym h') other),
      append_assoc (time_line m.time) changes rest,
    )
    (time_read m.time time next values (changes ++ rest) some above fits
    ∙ ap (before (record { time = time; values = values }))
    (changes_read values m.values first_code m.time 0 0 [] rest refl refl (omega arith) (h ∙ sym h') (omega arith)))

-- One at which nothing does has none.
moment_none : (m : Moment) (values : List Bool) → values ≡ m.values → moment_text values m ≡ []
unfolding moment_text
moment_none m values e = rw (← e, changes_none first_code values)

-- Behind a moment, it and the later ones at which something changes are read, up to the end.
later_read : (ms : List Moment) (time next : ℕ) (values : List Bool) → 0 < next → length values ≡ wires → RisesFrom time ms
    → read_at Line time next values (later_text values ms) ≡ gives (record { time = time; values = values } ∷ shown_after values ms)
unfolding later_text shown_after read_from complete
later_read [] time next values some h rise = rw (lt-ltb 0 next some)
later_read (m ∷ ms) time next values some h rise =
    by_test (same_values values m.values) refl
    (later_read ms time next values some h (rises_sooner time m.time ms (omega arith) rise.3))
    (λ some'. later_read ms m.time (after_last 0 0 values m.values) m.values some' rise.2 rise.3) where
      this : Moment
      this = record { time = time; values = values }

      by_test : (t : Bool) → same_values values m.values ≡ t
          → read_at Line time next values (later_text values ms) ≡ gives (this ∷ shown_after values ms)
          → (0 < after_last 0 0 values m.values
          → read_at Line m.time (after_last 0 0 values m.values) m.values (later_text m.values ms)
          ≡ gives (m ∷ shown_after m.values ms))
          → read_at Line time next values (moment_text values m ++ later_text m.values ms)
          ≡ gives (this ∷ cond t (shown_after values ms) (m ∷ shown_after m.values ms))
      by_test true e stays goes =
          let same : values ≡ m.values = same_equal values m.values e in
          rw (moment_none m values same, ← same) stays
      by_test false e stays goes =
          moment_read m time next values (later_text m.values ms) some rise.0 rise.1 h rise.2 e
          ∙ ap (before this) (goes (after_other values m.values 0 0 (h ∙ sym rise.2) e))

-- Reading what was written of some moments gives them back, without those at which nothing changes.
pub written_is_read : (ms : List Moment) → Rising ms → read_of (dump_of ms) ≡ gives (shown ms)
unfolding read_of dump_of shown
written_is_read [] rise = absurd rise
written_is_read (m ∷ ms) rise =
    head_read m.values (later_text m.values ms) rise.1
    ∙ later_read ms 0 wires m.values (omega arith) rise.1 rise.2
    ∙ ap (λ (time : ℕ). gives (record { time = time; values = m.values } ∷ shown_after m.values ms)) (sym rise.0)

-- ---- Every value at every time

-- Before the moments that follow a time the values stay.
not_yet : (values : List Bool) (t s : ℕ) (ms : List Moment) → t ≤ s → RisesFrom s ms → values_from values t ms ≡ values
unfolding values_from
not_yet values t s [] h rise = refl
not_yet values t s (m ∷ ms) h rise = let later : t < m.time = omega arith in rw (lt-leb m.time t later)

-- The moments at which something changes have the values of all.
same_after : (values : List Bool) (t s : ℕ) (ms : List Moment) → RisesFrom s ms
    → values_from values t (shown_after values ms) ≡ values_from values t ms
unfolding values_from shown_after
same_after values t s [] rise = refl
same_after values t s (m ∷ ms) rise =
    by_test (same_values values m.values) refl
    (same_after values t m.time ms rise.3) (same_after m.values t m.time ms rise.3) where
      -- Without a moment that changes nothing.
      passed : (t' : Bool) → leb m.time t ≡ t' → values_from values t ms ≡ cond t' (values_from values t ms) values
      passed true e = refl
      passed false e = not_yet values t m.time ms (omega (arith, leb-false m.time t e)) rise.3

      by_test : (t' : Bool) → same_values values m.values ≡ t'
          → values_from values t (shown_after values ms) ≡ values_from values t ms
          → values_from m.values t (shown_after m.values ms) ≡ values_from m.values t ms
          → values_from values t (cond t' (shown_after values ms) (m ∷ shown_after m.values ms))
          ≡ cond (leb m.time t) (values_from m.values t ms) values
      by_test true e stays goes =
          let same : values ≡ m.values = same_equal values m.values e in
          rw (← same) (stays ∙ passed (leb m.time t) refl)
      by_test false e stays goes = ap (λ (vs : List Bool). cond (leb m.time t) vs values) goes

-- What is read back has every value at every time.
pub same_values_lem : (t : ℕ) (ms : List Moment) → Rising ms → values_at t (shown ms) ≡ values_at t ms
unfolding values_at values_from shown
same_values_lem t [] rise = absurd rise
same_values_lem t (m ∷ ms) rise = ap (λ (vs : List Bool). cond (leb m.time t) vs []) (same_after m.values t 0 ms rise.2)

-- So what is read of a dump has, at every time, the values of the moments of which it was written.
pub read_back : (ms : List Moment) → Rising ms
    → (all : List Moment) × (read_of (dump_of ms) ≡ gives all) × ((t : ℕ) → values_at t all ≡ values_at t ms)
read_back ms rise = (shown ms, written_is_read ms rise, λ t. same_values_lem t ms rise)
