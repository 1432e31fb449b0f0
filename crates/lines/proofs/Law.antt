-- However the input is cut into parts, cutting them one after the other gives the rows of the plain split `rows_of`, up to
-- the first that is longer than the line. Each answer of `cut` tells what those rows begin with, whatever follows the part;
-- `last` tells what they are where nothing follows. It holds since each byte of a row goes behind those in the line.
-- Assumes nothing.
use Prim.Native.Nat.{ℕ, zero, suc, ◌+◌, ◌-◌, ◌<◌, ◌≤◌, min}
use mathlib.Core.Bool.{Bool, true, false, ◌&&◌, and-true, and-false}
use mathlib.Core.List.{List, [], ◌∷◌, ◌++◌, append_assoc, append-nil}
use mathlib.Core.Path.{◌≡◌, refl, sym, ap, subst, ◌∙◌}
use native.Mathlib.Nat.{zero-min, min-zero, suc-min-suc}
use native.Mathlib.Numerals.{add-one}
use native.Mathlib.Omega.{arith}
use borrow.Author.Tests.{eqb-true, eqb-false, ltb-true, ltb-false, leb-true, leb-false}
use lib.Dec.{eqb, ltb, leb}
use lib.ListN.{length, take, drop, set, length-append, length-drop, length-set, length-take, drop_of_length-le}
use lib.Seq.{append_snoc, drop-drop, drop-length, take-suc-set}
use Rattle.common.specs.Ascii.{cr, lf}
use Rattle.lines.specs.Rows.{before, rows_of}
use Rattle.lines.specs.Cuts.{held, lf_first, rows_from, cut_from, cut_of, last_from, last_of}
use Rattle.lines.specs.declared.Taken.{Taken}
use Rattle.lines.specs.declared.Taken.TheVariants.{Row, More, Over}
use Rattle.lines.specs.declared.Final.{Final}
use Rattle.lines.specs.declared.Final.TheVariants.{Nothing, Last, Wider}
use Rattle.lines.proofs.Steps.{either, OfRow, no_cr, on_held, on_break, on_byte, on_over}

-- ---- What an answer tells

-- The first of the rows is over `most` bytes.
pub record StartsOver (most : ℕ) (rows : List (List ℕ)) : Type 0 where
  pub first : List ℕ
  pub others : List (List ℕ)
  pub are : rows ≡ first ∷ others
  pub over : most < length first

-- The rows begin with the first `len` bytes of the line; the others are those of what is left of the part, and the rest.
pub record RowTold (part : List ℕ) (from : ℕ) (rows : List ℕ → List (List ℕ)) (used len : ℕ) (line : List ℕ) : Type 0 where
  pub fits : len ≤ length line
  pub forth : from < used
  pub inside : used ≤ length part
  pub are : (rest : List ℕ) → rows rest ≡ take len line ∷ rows_of (drop used part ++ rest)

-- The rows are those from the row under way on.
pub record MoreTold (rows : List ℕ → List (List ℕ)) (len : ℕ) (c : Bool) (line : List ℕ) : Type 0 where
  pub fits : len ≤ length line
  pub are : (rest : List ℕ) → rows rest ≡ rows_from (take len line) c rest

-- What an answer of `cut` tells of the rows to come, `rows rest` where `rest` follows the part.
abbrev pub Told : List ℕ → ℕ → (List ℕ → List (List ℕ)) → Taken → List ℕ → Type 0
Told part from rows (Row used len) line = RowTold part from rows used len line
Told part from rows (More len c) line = MoreTold rows len c line
Told part from rows Over line = (rest : List ℕ) → StartsOver (length line) (rows rest)

-- What an answer of `last` tells of the rows to come.
abbrev pub LastTold : List (List ℕ) → Final → List ℕ → Type 0
LastTold rows Nothing line = rows ≡ []
LastTold rows (Last len) line = (len ≤ length line) × (rows ≡ take len line ∷ [])
LastTold rows Wider line = StartsOver (length line) rows

-- ---- The bytes of a row under way

before_byte : (row : List ℕ) (b : ℕ) (rows : List (List ℕ)) → before row (before (b ∷ []) rows) ≡ before (row ++ (b ∷ [])) rows
unfolding before
before_byte [] b rows = refl
before_byte (x ∷ row) b [] = refl
before_byte (x ∷ row) b (r ∷ rows) = ap (λ (l : List ℕ). l ∷ rows) (sym (append_snoc (x ∷ row) b r))

before_empty : (row : List ℕ) (rows : List (List ℕ)) → before row ([] ∷ rows) ≡ row ∷ rows
unfolding before
before_empty [] rows = refl
before_empty (x ∷ row) rows = ap (λ (l : List ℕ). l ∷ rows) (append-nil (x ∷ row))

before_none : (row : List ℕ) → 0 < length row → before row [] ≡ row ∷ []
unfolding before
before_none [] h = absurd (omega arith)
before_none (x ∷ row) h = refl

before_cr : (row : List ℕ) → before row (rows_of (cr ∷ [])) ≡ (row ++ (cr ∷ [])) ∷ []
unfolding before rows_of
before_cr [] = refl
before_cr (x ∷ row) = refl

before_over : (most : ℕ) (row : List ℕ) (rows : List (List ℕ)) → most < length row → StartsOver most (before row rows)
unfolding before
before_over most [] rows h = absurd (omega arith)
before_over most (x ∷ row) [] h = record { first = x ∷ row; others = []; are = refl; over = h }
before_over most (x ∷ row) (r ∷ rows) h =
    record { first = (x ∷ row) ++ r; others = rows; are = refl; over = simp length-append (omega arith) }

-- A byte of the row goes in front of the rows of what follows it, whatever comes behind the part.
unbroken : (b : ℕ) (s rest : List ℕ) → OfRow b s → (eqb b cr && lf_first (s ++ rest)) ≡ false
unbroken b [] rest o = let e : eqb b cr ≡ false = sym (and-true (eqb b cr)) ∙ o.unheld in rw e
unbroken b (c ∷ s) rest o = o.unbroken

rows_byte : (b : ℕ) (s : List ℕ) → (eqb b cr && lf_first s) ≡ false → rows_of (b ∷ s) ≡ before (b ∷ []) (rows_of s)
unfolding rows_of before
rows_byte b [] e = refl
rows_byte b (c ∷ s) e = rw e

rows_break : (b c : ℕ) (s : List ℕ) → (eqb b cr && eqb c lf) ≡ true → rows_of (b ∷ c ∷ s) ≡ [] ∷ rows_of s
unfolding rows_of
rows_break b c s e = rw e

byte_goes : (row : List ℕ) (b : ℕ) (s rest : List ℕ) → OfRow b s
    → before row (rows_of (b ∷ (s ++ rest))) ≡ before (row ++ (b ∷ [])) (rows_of (s ++ rest))
byte_goes row b s rest o =
    rw (rows_byte b (s ++ rest) (unbroken b s rest o)) (before_byte row b (rows_of (s ++ rest)))

-- ---- What is left of a part

-- `s` is what the part ends with.
Ends : List ℕ → List ℕ → Type 0
Ends part s = drop (length part - length s) part ≡ s

ends_long : (part : List ℕ) (b : ℕ) (s : List ℕ) → Ends part (b ∷ s) → suc (length s) ≤ length part
unfolding Ends
ends_long part b s e = omega (arith, length-drop (length part - suc (length s)) part, ap length e)

ends_tail : (part : List ℕ) (b : ℕ) (s : List ℕ) → Ends part (b ∷ s) → Ends part s
unfolding Ends
ends_tail part b s e =
    let h : suc (length s) ≤ length part = ends_long part b s e in
    let m : length part - length s ≡ length part - suc (length s) + 1 = omega arith in
    rw m (sym (drop-drop 1 (length part - suc (length s)) part) ∙ ap (λ (l : List ℕ). drop 1 l) e)

ends_rest : (part s : List ℕ) → Ends part s → Ends part (drop 1 s)
ends_rest part [] e = e
ends_rest part (b ∷ s) e = ends_tail part b s e

-- ---- One part

-- What is told of the same rows, said otherwise, and from another place on.
told_same : (part : List ℕ) (from : ℕ) (from' : ℕ) (rows rows' : List ℕ → List (List ℕ)) (r : Taken) (line : List ℕ)
    → ((rest : List ℕ) → rows rest ≡ rows' rest)
    → ((used : ℕ) → from' < used → used ≤ length part → from < used)
    → Told part from' rows' r line
    → Told part from rows r line
told_same part from from' rows rows' (Row used len) line e h t =
    record { fits = t.fits; forth = h used t.forth t.inside; inside = t.inside; are = λ rest. e rest ∙ t.are rest }
told_same part from from' rows rows' (More len c) line e h t = record { fits = t.fits; are = λ rest. e rest ∙ t.are rest }
told_same part from from' rows rows' Over line e h t = λ rest. subst (StartsOver (length line)) (sym (e rest)) (t rest)

-- The rows of the bytes `t` and the rest, from a row under way on.
onward : List ℕ → List ℕ → List ℕ → List (List ℕ)
onward row t rest = before row (rows_of (t ++ rest))

-- What is to be shown of an answer and the line after it.
Holds : List ℕ → List ℕ → ℕ → List ℕ → Taken × List ℕ → Type 0
Holds part line n t answer =
    (length answer.1 ≡ length line)
    × Told part (length part - length (drop 1 t)) (onward (take n line) t) answer.0 answer.1

module _ (part : List ℕ) where
  at_end : (line : List ℕ) (n : ℕ) → n ≤ length line → Holds part line n [] (cut_from (length part) line n [])
  unfolding Holds onward rows_from cut_from
  at_end line n h = (refl, record { fits = h; are = λ rest. refl })

  at_held : (b : ℕ) (line : List ℕ) (n : ℕ) → eqb b cr ≡ true → n ≤ length line
      → Holds part line n (b ∷ []) (cut_from (length part) line n (b ∷ []))
  unfolding Holds onward rows_from
  at_held b line n e h =
      rw (on_held (length part) line n b e) (refl, record { fits = h; are = λ rest. rw (eqb-true b cr e) })

  at_break : (b c : ℕ) (s line : List ℕ) (n : ℕ) → (eqb b cr && eqb c lf) ≡ true → n ≤ length line → Ends part (c ∷ s)
      → Holds part line n (b ∷ c ∷ s) (cut_from (length part) line n (b ∷ c ∷ s))
  unfolding Holds onward Ends
  at_break b c s line n t h e =
      let long : suc (length s) ≤ length part = ends_long part c s e in
      rw (on_break (length part) line n b c s t) (
        refl,
        record {
          fits = h;
          forth = omega arith;
          inside = omega arith;
          are = λ rest.
              rw (rows_break b c (s ++ rest) t, ends_tail part c s e) (before_empty (take n line) (rows_of (s ++ rest)));
        },
      )

  at_byte : (b : ℕ) (s line : List ℕ) (n : ℕ) → OfRow b s → n < length line
      → Holds part (set line n b) (n + 1) s (cut_from (length part) (set line n b) (n + 1) s)
      → Holds part line n (b ∷ s) (cut_from (length part) line n (b ∷ s))
  unfolding Holds onward
  at_byte b s line n o h t =
      let a = cut_from (length part) (set line n b) (n + 1) s in
      rw (on_byte (length part) line n b s o h) (
        t.0 ∙ length-set line n b,
        told_same part (length part - length s) (length part - length (drop 1 s)) (onward (take n line) (b ∷ s))
            (onward (take (n + 1) (set line n b)) s) a.0 a.1
            (λ rest. byte_goes (take n line) b s rest o ∙ rw (add-one, take-suc-set line n b h))
            (λ used k i. omega (arith, length-drop 1 s)) t.1,
      )

  at_over : (b : ℕ) (s line : List ℕ) (n : ℕ) → OfRow b s → length line ≤ n
      → Holds part line n (b ∷ s) (cut_from (length part) line n (b ∷ s))
  unfolding Holds onward
  at_over b s line n o h =
      rw (on_over (length part) line n b s o h) (
        refl,
        λ rest. rw (byte_goes (take n line) b s rest o)
            (before_over (length line) (take n line ++ (b ∷ [])) (rows_of (s ++ rest)) (simp (length-append, length-take) (omega arith))),
      )

  at_row : (b : ℕ) (s line : List ℕ) (n : ℕ) → OfRow b s → n ≤ length line
      → ((line' : List ℕ) (n' : ℕ) → n' ≤ length line' → Holds part line' n' s (cut_from (length part) line' n' s))
      → Holds part line n (b ∷ s) (cut_from (length part) line n (b ∷ s))
  at_row b s line n o h after =
      either (ltb n (length line))
      (λ t. let room : n < length line = ltb-true n (length line) t in
      at_byte b s line n o room (after (set line n b) (n + 1) (simp length-set (omega arith))))
      (λ t. at_over b s line n o (ltb-false n (length line) t))

  holds : (t line : List ℕ) (n : ℕ) → n ≤ length line → Ends part (drop 1 t) → Holds part line n t (cut_from (length part) line n t)
  holds [] line n h e = at_end line n h
  holds (b ∷ []) line n h e =
      either (eqb b cr) (λ t. at_held b line n t h)
      (λ t. at_row b [] line n (no_cr b [] (eqb-false b cr t)) h (λ l m k. holds [] l m k e))
  holds (b ∷ c ∷ s) line n h e =
      either (eqb b cr && eqb c lf) (λ t. at_break b c s line n t h e)
      (λ t. at_row b (c ∷ s) line n (record { unheld = and-false (eqb b cr); unbroken = t }) h
      (λ l m k. holds (c ∷ s) l m k (ends_tail part c s e)))

-- ---- The laws

-- A length past the line's counts as that.
take_min : (n : ℕ) (l : List ℕ) → take (min n (length l)) l ≡ take n l
take_min zero l = rw zero-min
take_min (suc n) [] = rw min-zero
take_min (suc n) (x ∷ l) = rw suc-min-suc (ap (λ (r : List ℕ). x ∷ r) (take_min n l))

from_ends : (part : List ℕ) (from : ℕ) → Ends part (drop from part)
unfolding Ends
from_ends part from =
    either (leb from (length part))
    (λ t. let h : from ≤ length part = leb-true from (length part) t in
    let e : length part - length (drop from part) ≡ from = simp length-drop (omega arith) in rw e)
    (λ t. let h : length part < from = leb-false from (length part) t in
    let e : length part - length (drop from part) ≡ length part = simp length-drop (omega arith) in
    let g : length part ≤ from = omega arith in rw e (drop-length part ∙ sym (drop_of_length-le part g)))

start_ends : (part : List ℕ) (from : ℕ) (c : Bool) → Ends part (drop 1 (held c ++ drop from part))
start_ends part from true = from_ends part from
start_ends part from false = ends_rest part (drop from part) (from_ends part from)

start_forth : (part : List ℕ) (from : ℕ) (c : Bool) (used : ℕ)
    → length part - length (drop 1 (held c ++ drop from part)) < used → used ≤ length part → from < used
start_forth part from true used k i = omega (arith, length-drop from part)
start_forth part from false used k i = omega (arith, length-drop from part, length-drop 1 (drop from part))

-- An answer of `cut` leaves the line as long as it was, and tells what the rows begin with that are still to come.
pub cut_law : (part : List ℕ) (from : ℕ) (line : List ℕ) (len : ℕ) (c : Bool) (r : Taken) (line' : List ℕ)
    → (r, line') ≡ cut_of part from line len c
    → (length line' ≡ length line)
    × Told part from (λ rest. rows_from (take len line) c (drop from part ++ rest)) r line'
unfolding cut_of rows_from Holds onward
cut_law part from line len c r line' e =
    let t = held c ++ drop from part in
    let n = min len (length line) in
    let a = cut_from (length part) line n t in
    let h : Holds part line n t a = holds part t line n (omega arith) (start_ends part from c) in
    subst
    (λ (x : Taken × List ℕ). (length x.1 ≡ length line)
    × Told part from (λ rest. rows_from (take len line) c (drop from part ++ rest)) x.0 x.1)
    (sym e) (
      h.0,
      told_same part from (length part - length (drop 1 t)) (λ rest. rows_from (take len line) c (drop from part ++ rest))
          (onward (take n line) t) a.0 a.1
          (λ rest. rw (take_min len line, append_assoc (held c) (drop from part) rest))
          (start_forth part from c) h.1,
    )

last_holds : (line : List ℕ) (n : ℕ) (c : Bool) → n ≤ length line
    → (length (last_from line n c).1 ≡ length line)
    × LastTold (rows_from (take n line) c []) (last_from line n c).0 (last_from line n c).1
unfolding last_from rows_from before rows_of
last_holds line n true h =
    either (ltb n (length line))
    (λ t. let room : n < length line = ltb-true n (length line) t in
    rw t (
      length-set line n cr,
      (
        simp length-set (omega arith),
        before_cr (take n line) ∙ rw (add-one, take-suc-set line n cr room),
      ),
    ))
    (λ t. let full : length line ≤ n = ltb-false n (length line) t in
    rw t (
      refl,
      record {
        first = take n line ++ (cr ∷ []);
        others = [];
        are = before_cr (take n line);
        over = simp (length-append, length-take) (omega arith);
      },
    ))
last_holds line n false h =
    either (eqb n 0)
    (λ t. rw t (refl, rw (eqb-true n 0 t)))
    (λ t. rw t (refl, (h, before_none (take n line) (simp length-take (omega (arith, eqb-false n 0 t))))))

-- So does an answer of `last`, where nothing follows.
pub last_law : (line : List ℕ) (len : ℕ) (c : Bool) (r : Final) (line' : List ℕ)
    → (r, line') ≡ last_of line len c
    → (length line' ≡ length line) × LastTold (rows_from (take len line) c []) r line'
unfolding last_of
last_law line len c r line' e =
    subst (λ (x : Final × List ℕ). (length x.1 ≡ length line) × LastTold (rows_from (take len line) c []) x.0 x.1)
    (sym e)
    (rw (take_min len line) at (last_holds line (min len (length line)) c (omega arith)))

-- At the start of the input, and behind each row, nothing is held: the rows to come are those of the plain split.
pub start_law : (s : List ℕ) → rows_from [] false s ≡ rows_of s
unfolding rows_from before
start_law s = refl
