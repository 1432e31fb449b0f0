-- A call of `take` takes in what the rest of the reading lacks, whatever follows the part: the whole dump is read from the answer's
-- reader on, behind the moment that the call gives. By induction over the bytes of the part. `finish` is the same at the end.
-- Assumes nothing.
use Prim.Native.Nat.{ℕ, suc, ◌+◌}
use native.Mathlib.Omega.{arith}
use mathlib.Core.Bool.{Bool, true, false, cond, true≢false, false≢true}
use mathlib.Core.List.{List, [], ◌∷◌, ◌++◌, append_assoc}
use mathlib.Core.Path.{◌≡◌, refl, ap, ◌∙◌}
use borrow.Author.Tests.{eq-eqb}
use lib.Dec.{eqb}
use lib.ListN.{length, drop, length-append}
use Rattle.common.specs.Answers.{refuses}
use Rattle.common.proofs.Pairs.{both}
use Rattle.dump.specs.Wires.{wires}
use Rattle.readback.specs.declared.Reader.{Reader}
use Rattle.readback.specs.Answers.{Took}
use Rattle.readback.specs.Bytes.{byte_of}
use Rattle.readback.specs.Reads.{
  is_bad,
  complete,
  begins,
  moment_of,
  before,
  read_from,
  refused,
  bits,
  goes_on,
  gives_moment,
  taken_from,
  take_of,
  finish_of,
}
use Rattle.readback.specs.Calls.{read_up_to, UsedUp, GivesNext, RefusesAll, UsesSome, GivesLast}
use Rattle.readback.proofs.Places.{refused_for_good}

-- ---- The part, byte by byte

-- The reader behind bytes.
abbrev pub through : Reader → List ℕ → Reader
through r [] = r
through r (b ∷ bytes) = through (byte_of r b) bytes

-- None of them is refused, and none begins a moment.
abbrev pub Plain : Reader → List ℕ → Type 0
Plain r [] = Unit {0}
Plain r (b ∷ bytes) = (is_bad (byte_of r b).place ≡ false) × (begins r b ≡ false) × Plain (byte_of r b) bytes

-- What a part from some place on comes to is one of three, with `used` bytes used before: plain bytes alone; or plain bytes and one that
-- begins a moment, with others behind it; or the same with one that no dump has there.
pub data Comes (start : Reader) (values : List ℕ) (r : Reader) (used : ℕ) : List ℕ → Took × List ℕ → Type 0 where
  to_its_end : (bytes : List ℕ) (n : ℕ) → n ≡ used + length bytes → Plain r bytes
      → Comes start values r used bytes (goes_on (through r bytes) n, values)
  to_a_moment : (front : List ℕ) (b : ℕ) (back : List ℕ) (n : ℕ) → n ≡ used + suc (length front) → Plain r front
      → is_bad (byte_of (through r front) b).place ≡ false
      → begins (through r front) b ≡ true
      → Comes start values r used (front ++ b ∷ back)
      (gives_moment (through r front).time n (byte_of (through r front) b), bits (through r front).values)
  to_nothing : (front : List ℕ) (b : ℕ) (back : List ℕ) (n : ℕ) → n ≡ used + length front → Plain r front
      → is_bad (byte_of (through r front) b).place ≡ true
      → Comes start values r used (front ++ b ∷ back) (refused 9 n start, values)

module _ (start : Reader) (values : List ℕ) where
  -- What the others come to, a plain byte and they come to.
  one_more : (r : Reader) (used b : ℕ) {bytes : List ℕ} {answer : Took × List ℕ} → is_bad (byte_of r b).place ≡ false → begins r b ≡ false
      → Comes start values (byte_of r b) (suc used) bytes answer
      → Comes start values r used (b ∷ bytes) answer
  one_more r used b fine e (to_its_end bytes n size p) = to_its_end (b ∷ bytes) n (omega arith) (fine, e, p)
  one_more r used b fine e (to_a_moment front c back n size p f g) = to_a_moment (b ∷ front) c back n (omega arith) (fine, e, p) f g
  one_more r used b fine e (to_nothing front c back n size p f) = to_nothing (b ∷ front) c back n (omega arith) (fine, e, p) f

  in_part : (bytes : List ℕ) (r : Reader) (used : ℕ) → Comes start values r used bytes (taken_from start r used bytes values)
  unfolding taken_from
  in_part [] r used = to_its_end [] used (omega arith) Prim.tt
  in_part (b ∷ bytes) r used = by_tests (is_bad (byte_of r b).place) (begins r b) refl refl (in_part bytes (byte_of r b) (suc used)) where
    by_tests : (s t : Bool) → is_bad (byte_of r b).place ≡ s → begins r b ≡ t
        → Comes start values (byte_of r b) (suc used) bytes (taken_from start (byte_of r b) (suc used) bytes values)
        → Comes start values r used (b ∷ bytes)
        (cond s (refused 9 used start, values)
        (cond t (gives_moment r.time (suc used) (byte_of r b), bits r.values)
        (taken_from start (byte_of r b) (suc used) bytes values)))
    by_tests true t p q others = to_nothing [] b bytes used (omega arith) Prim.tt p
    by_tests false true p q others = to_a_moment [] b bytes (suc used) (omega arith) Prim.tt p q
    by_tests false false p q others = one_more r used b p q others

-- With a buffer of 26 bytes a call comes to one of the three.
pub take_comes : (r : Reader) (part values : List ℕ) → length values ≡ wires → Comes r values r 0 part (take_of r part values)
unfolding take_of
take_comes r part values size = rw (eq-eqb (length values) wires size) (in_part r values part r 0)

-- ---- What is read of the bytes

-- A byte that begins no moment is read, and then the others.
plain_byte : (r : Reader) (b : ℕ) (bytes : List ℕ) → begins r b ≡ false → read_from r (b ∷ bytes) ≡ read_from (byte_of r b) bytes
unfolding read_from
plain_byte r b bytes e = rw e

-- A byte that begins one gives the moment before it.
first_byte : (r : Reader) (b : ℕ) (bytes : List ℕ) → begins r b ≡ true
    → read_from r (b ∷ bytes) ≡ before (moment_of r) (read_from (byte_of r b) bytes)
unfolding read_from
first_byte r b bytes e = rw e

-- A byte that no dump has refuses all.
bad_byte : (r : Reader) (b : ℕ) (bytes : List ℕ) → is_bad (byte_of r b).place ≡ true → read_from r (b ∷ bytes) ≡ refuses 9
bad_byte r b bytes e = by_test (begins r b) refl (refused_for_good _ _ _ (byte_of r b).values bytes e) where
  by_test : (t : Bool) → begins r b ≡ t → read_from (byte_of r b) bytes ≡ refuses 9 → read_from r (b ∷ bytes) ≡ refuses 9
  by_test true p q = first_byte r b bytes p ∙ rw q
  by_test false p q = plain_byte r b bytes p ∙ q

-- Plain bytes are read, and then the others.
plain_bytes : (front : List ℕ) (r : Reader) (rest : List ℕ) → Plain r front → read_from r (front ++ rest) ≡ read_from (through r front) rest
plain_bytes [] r rest p = refl
plain_bytes (b ∷ front) r rest p = plain_byte r b (front ++ rest) p.1 ∙ plain_bytes front (byte_of r b) rest p.2

-- So many are read of them, up to a byte that is refused.
plain_up_to : (front : List ℕ) (r : Reader) (b : ℕ) (rest : List ℕ) → Plain r front → is_bad (byte_of (through r front) b).place ≡ true
    → read_up_to r (front ++ b ∷ rest) ≡ length front
unfolding read_up_to
plain_up_to [] r b rest p e = rw e
plain_up_to (c ∷ front) r b rest p e = rw p.0 (ap suc (plain_up_to front (byte_of r c) b rest p.2 e))

-- Behind the byte that is the last of those used.
pub drop_front : (front : List ℕ) (b : ℕ) (back : List ℕ) → drop (suc (length front)) (front ++ b ∷ back) ≡ back
drop_front [] b back = refl
drop_front (c ∷ front) b back = drop_front front b back

-- ---- `take`

-- What a way says of the answer, where nothing was used before.
its_end : (r : Reader) {part : List ℕ} (values : List ℕ) {answer : Took × List ℕ} → Comes r values r 0 part answer
    → answer.0.refusal ≡ 0
    → answer.0.given ≡ false
    → UsedUp r part values answer
its_end r values (to_its_end bytes n size p) e given =
    record { whole = omega arith; buffer = refl; onward = λ rest. plain_bytes bytes r rest p }
its_end r values (to_a_moment front b back n size p f g) e given = absurd (true≢false given)
its_end r values (to_nothing front b back n size p f) e given = absurd (omega arith)

a_moment : (r : Reader) {part : List ℕ} (values : List ℕ) {answer : Took × List ℕ} → Comes r values r 0 part answer
    → answer.0.given ≡ true
    → GivesNext r part answer
a_moment r values (to_its_end bytes n size p) given = absurd (false≢true given)
a_moment r values (to_a_moment front b back n size p f g) given =
    let same : n ≡ suc (length front) = omega arith in
    record {
      values = (through r front).values;
      buffer = refl;
      forth = omega arith;
      inside = simp length-append (omega arith);
      onward = λ rest.
          rw (same, drop_front front b back, append_assoc front (b ∷ back) rest)
          (plain_bytes front r (b ∷ back ++ rest) p ∙ first_byte (through r front) b (back ++ rest) g);
    }
a_moment r values (to_nothing front b back n size p f) given = absurd (false≢true given)

nothing : (r : Reader) {part : List ℕ} (values : List ℕ) {answer : Took × List ℕ} → Comes r values r 0 part answer
    → answer.0.refusal ≡ 9
    → RefusesAll r part values answer
nothing r values (to_its_end bytes n size p) e = absurd (omega arith)
nothing r values (to_a_moment front b back n size p f g) e = absurd (omega arith)
nothing r values (to_nothing front b back n size p f) e =
    let same : n ≡ length front = omega arith in
    record {
      kept = refl;
      buffer = refl;
      inside = simp length-append (omega arith);
      there = λ rest. rw (same, append_assoc front (b ∷ back) rest) (plain_up_to front r b (back ++ rest) p f);
      onward = λ rest.
          rw (append_assoc front (b ∷ back) rest)
          (plain_bytes front r (b ∷ back ++ rest) p ∙ bad_byte (through r front) b (back ++ rest) f);
    }

-- A call that is not refused and gives no moment has used the part up.
pub take_uses_up : (r : Reader) (part values : List ℕ) → length values ≡ wires
    → (take_of r part values).0.refusal ≡ 0
    → (take_of r part values).0.given ≡ false
    → UsedUp r part values (take_of r part values)
take_uses_up r part values size = its_end r values (take_comes r part values size)

-- One that gives a moment gives the next of the reading.
pub take_gives : (r : Reader) (part values : List ℕ) → length values ≡ wires
    → (take_of r part values).0.given ≡ true
    → GivesNext r part (take_of r part values)
take_gives r part values size = a_moment r values (take_comes r part values size)

-- One that is refused with 9 has met a byte behind which nothing is ever given.
pub take_refuses : (r : Reader) (part values : List ℕ) → length values ≡ wires
    → (take_of r part values).0.refusal ≡ 9
    → RefusesAll r part values (take_of r part values)
take_refuses r part values size = nothing r values (take_comes r part values size)

-- How much a call uses that is not refused, whatever buffer is lent.
uses_some : (r : Reader) {part : List ℕ} (values : List ℕ) {answer : Took × List ℕ} → Comes r values r 0 part answer
    → answer.0.refusal ≡ 0
    → UsesSome part answer.0
uses_some r values (to_its_end bytes n size p) e = record { inside = omega arith; forth = λ h. omega arith }
uses_some r values (to_a_moment front b back n size p f g) e =
    record { inside = simp length-append (omega arith); forth = λ h. omega arith }
uses_some r values (to_nothing front b back n size p f) e = absurd (omega arith)

pub take_uses_some : (r : Reader) (part values : List ℕ) {took : Took} {left : List ℕ} → (took, left) ≡ take_of r part values
    → took.refusal ≡ 0
    → UsesSome part took
unfolding take_of
take_uses_some r part values {took} {left} = by_test (eqb (length values) wires) where
  by_test : (t : Bool) → (took, left) ≡ cond t (taken_from r r 0 part values) (refused 8 0 r, values) → took.refusal ≡ 0 → UsesSome part took
  by_test true e zero = let f = both e in rw f.0 (uses_some r values (in_part r values part r 0) (rw f.0 at zero))
  by_test false e zero = let f = both e in absurd (omega (arith, rw f.0 at zero))

-- ---- `finish`

-- The answer, by whether a moment is complete.
abbrev pub last_by : Bool → Reader → List ℕ → Took × List ℕ
last_by t r values = cond t (gives_moment r.time 0 r, bits r.values) (refused 9 0 r, values)

pub finish_comes : (r : Reader) (values : List ℕ) → length values ≡ wires → finish_of r values ≡ last_by (complete r) r values
unfolding finish_of
finish_comes r values size = rw (eq-eqb (length values) wires size)

-- A call that gives a moment gives the last, and all that is left of the reading.
pub finish_gives : (r : Reader) (values : List ℕ) → length values ≡ wires
    → (finish_of r values).0.given ≡ true
    → GivesLast r (finish_of r values)
unfolding read_from
finish_gives r values size = rw (finish_comes r values size) (by_test (complete r) refl) where
  by_test : (t : Bool) → complete r ≡ t → (last_by t r values).0.given ≡ true → GivesLast r (last_by t r values)
  by_test true e given = record { values = r.values; buffer = refl; all = rw e }
  by_test false e given = absurd (false≢true given)

-- One that is refused with 9 says that the bytes that were read are no dump, and leaves the buffer as it was.
pub finish_refuses : (r : Reader) (values : List ℕ) → length values ≡ wires
    → (finish_of r values).0.refusal ≡ 9
    → (read_from r [] ≡ refuses 9) × ((finish_of r values).1 ≡ values)
unfolding read_from
finish_refuses r values size = rw (finish_comes r values size) (by_test (complete r) refl) where
  by_test : (t : Bool) → complete r ≡ t → (last_by t r values).0.refusal ≡ 9 → (read_from r [] ≡ refuses 9) × ((last_by t r values).1 ≡ values)
  by_test true e nine = absurd (omega arith)
  by_test false e nine = (rw e, refl)
