-- What one byte does by the rule `cut_from`, in the words of the code's tests: each is the rule's own line with its tests told.
-- Then the same of all bytes in front of a CR, byte by byte: they are found by one search and stored by one copy.
-- Last, what one byte does to that search.
-- Assumes nothing.
use Prim.Native.Nat.{ℕ, zero, suc, ◌+◌, ◌-◌, ◌<◌, ◌≤◌}
use mathlib.Core.Bool.{Bool, true, false, ◌&&◌, and-false}
use mathlib.Core.List.{List, [], ◌∷◌, ◌++◌, append_assoc, append-nil}
use mathlib.Core.Path.{◌≡◌, refl, sym, ◌∙◌}
use native.Mathlib.Nat.{add-zero}
use native.Mathlib.Numerals.{add-one}
use native.Mathlib.Omega.{arith}
use borrow.Author.Tests.{eq-eqb, ne_eqb, eqb-false, lt-ltb, le-ltb}
use lib.Dec.{eqb}
use lib.ListN.{length, take, drop, get_or, set, drop_of_length-le, length-take, length-drop, length-set}
use lib.Seq.{sets, sets-eq, take_all, take-length, length-take-le, take-add, drop_at, drop-cons, drop-drop, slice-cons}
use Rattle.spans.specs.Bytes.{slice, index_of}
use Rattle.common.specs.Ascii.{cr, lf}
use Rattle.lines.specs.Cuts.{empty, lf_first, cut_from}
use Rattle.lines.specs.declared.Taken.TheVariants.{Row, More, Over}

-- By cases on a test, with what it told.
pub either : {P : Type 0} (t : Bool) → (t ≡ true → P) → (t ≡ false → P) → P
either true f g = f refl
either false f g = g refl

-- A byte of the row, with what follows it: no CR, or one that another byte than LF follows.
pub record OfRow (b : ℕ) (s : List ℕ) : Type 0 where
  pub unheld : (eqb b cr && empty s) ≡ false
  pub unbroken : (eqb b cr && lf_first s) ≡ false

pub no_cr : (b : ℕ) (s : List ℕ) → (b ≡ cr → ⊥) → OfRow b s
no_cr b s h = record { unheld = simp (ne_eqb b cr h); unbroken = simp (ne_eqb b cr h) }

-- What is left of a part from one of its places on.
pub here : (s : List ℕ) (at : ℕ) → at < length s → drop at s ≡ get_or s at 0 ∷ drop (at + 1) s
here s at h = rw (add-one, drop-cons s at 0)

pub gone : (s : List ℕ) (at : ℕ) → length s ≤ at → drop at s ≡ []
gone s at h = drop_of_length-le s h

pub no_lf : (b : ℕ) (s : List ℕ) (at : ℕ) → at < length s → (get_or s at 0 ≡ lf → ⊥) → OfRow b (drop at s)
no_lf b s at h n =
    rw (here s at h)
    (record { unheld = and-false (eqb b cr); unbroken = simp (ne_eqb (get_or s at 0) lf n, and-false (eqb b cr)) })

module _ (size : ℕ) (line : List ℕ) (n : ℕ) where
  pub on_end : cut_from size line n [] ≡ (More n false, line)
  unfolding cut_from
  on_end = refl

  pub on_held : (b : ℕ) → eqb b cr ≡ true → cut_from size line n (b ∷ []) ≡ (More n true, line)
  unfolding cut_from
  on_held b e = simp e

  pub on_break : (b c : ℕ) (s : List ℕ) → (eqb b cr && eqb c lf) ≡ true
      → cut_from size line n (b ∷ c ∷ s) ≡ (Row (size - length s) n, line)
  unfolding cut_from
  on_break b c s e = simp (and-false (eqb b cr), e)

  pub on_byte : (b : ℕ) (s : List ℕ) → OfRow b s → n < length line
      → cut_from size line n (b ∷ s) ≡ cut_from size (set line n b) (n + 1) s
  unfolding cut_from
  on_byte b s o h = simp (o.unheld, o.unbroken, lt-ltb n (length line) h)

  pub on_over : (b : ℕ) (s : List ℕ) → OfRow b s → length line ≤ n → cut_from size line n (b ∷ s) ≡ (Over, line)
  unfolding cut_from
  on_over b s o h = simp (o.unheld, o.unbroken, le-ltb n (length line) h)

-- The same of a byte `b` in front of the part `s` from `at` on: a held CR, or the byte in front of that place.
module _ (s line : List ℕ) (n b at : ℕ) where
  pub held_at : length s ≤ at → b ≡ cr → cut_from (length s) line n (b ∷ drop at s) ≡ (More n true, line)
  held_at h e = rw (gone s at h) (on_held (length s) line n b (eq-eqb b cr e))

  pub break_at : at < length s → b ≡ cr → get_or s at 0 ≡ lf
      → cut_from (length s) line n (b ∷ drop at s) ≡ (Row (at + 1) n, line)
  break_at h e f =
      let left : length s - length (drop (at + 1) s) ≡ at + 1 = simp length-drop (omega arith) in
      rw (here s at h) (on_break (length s) line n b (get_or s at 0) (drop (at + 1) s) (simp (eq-eqb b cr e, eq-eqb (get_or s at 0) lf f)) ∙ rw left)

-- What a byte does, behind a held CR or in turn.
pub ruleset byte = (held_at, break_at, on_over, on_byte, no_lf, no_cr, here, gone, on_end)

-- ---- The bytes in front of a CR

-- Of the first `m` bytes, those in front of the first CR are bytes of the row: they are stored behind those in the line.
on_bytes : (size m : ℕ) (s line : List ℕ) (n : ℕ) → n + m ≤ length line
    → (let k = index_of cr (take m s) in cut_from size line n s ≡ cut_from size (sets line n (take k s)) (n + k) (drop k s))
unfolding index_of
on_bytes size zero s line n h = rw add-zero
on_bytes size (suc m) [] line n h = rw add-zero
on_bytes size (suc m) (b ∷ s) line n h =
    either (eqb b cr) (λ t. rw (t, add-zero))
    (λ t. let k = index_of cr (take m s) in
    let e : n + suc k ≡ suc n + k = omega arith in
    rw (t, e)
    (on_byte size line n b s (no_cr b s (eqb-false b cr t)) (omega arith)
    ∙ rw add-one (on_bytes size m s (set line n b) (suc n) (simp length-set (omega arith)))))

-- A part of a list, by its start and its end and by its start and its length.
slice_take : (f m : ℕ) (s : List ℕ) → f ≤ length s → slice f (f + m) s ≡ take m (drop f s)
unfolding slice
slice_take f m s h = rw take-add (drop_at (take f s) (take m (drop f s)) f (length-take-le f s h))

-- A copy into the line from place `n` on is as good as one store after the other.
copied : (line t : List ℕ) (n : ℕ) → n + length t ≤ length line
    → (let room = length line - n in
    take n line ++ (take (length t) t ++ drop (length t) (take room (drop n line)) ++ drop room (drop n line)) ≡ sets line n t)
copied line t n h =
    let room = length line - n in
    let e : length (drop n line) ≤ room = simp length-drop (omega arith) in
    rw (take-length t, take_all room (drop n line) e, drop_of_length-le (drop n line) e, append-nil, drop-drop, ← append_assoc)
    (sym (sets-eq t line n h))

-- The same of a search among the `m` bytes of a part from `from` on, which answers `end`, and a copy, which leaves `d` in the
-- line from place `n` on.
pub bytes_at : (part line : List ℕ) (from n m end r : ℕ) (d : List ℕ) → from + m ≤ length part → n + m ≤ length line
    → end ≡ from + index_of cr (slice from (from + m) part)
    → end ≤ from + m
    → (let t = take (end - from) (drop from part) in
    let room = length line - n in
    r ≡ length t
    → d ≡ take (length t) t ++ drop (length t) (take room (drop n line))
    → cut_from (length part) line n (drop from part)
    ≡ cut_from (length part) (take n line ++ (d ++ drop room (drop n line))) (n + r) (drop (from + r) part))
bytes_at part line from n m end r d hp hl found hm er ed =
    let t = take (end - from) (drop from part) in
    let k = index_of cr (take m (drop from part)) in
    let h : from ≤ length part = omega arith in
    let ek : end - from ≡ k = omega (arith, rw (slice_take from m part h) at found) in
    let et : length t ≡ k = simp (length-take, length-drop) (omega arith) in
    rw (ed, copied line t n (omega arith), er, et, ek, ← drop-drop k from part) (on_bytes (length part) m (drop from part) line n hl)

-- ---- The search for a CR

-- A search from `from` on and in front of `to` is at place `i`: what it is to find is what is to be found from there on.
pub record Searched (s : List ℕ) (from to i : ℕ) : Type 0 where
  pub within : to ≤ length s
  pub inside : i ≤ to
  pub same : from + index_of cr (slice from to s) ≡ i + index_of cr (slice i to s)

-- One byte of the search: it is the CR, or the search goes on at the next place, `j`.
module _ {s : List ℕ} {from to i : ℕ} (p : Searched s from to i) (h : i < to) where
  pub cr_here : get_or s i 0 ≡ cr → (i ≡ from + index_of cr (slice from to s)) × (i ≤ to)
  unfolding slice index_of
  cr_here e = (sym (p.same ∙ rw (slice-cons i to s 0 h p.within, eq-eqb (get_or s i 0) cr e, add-zero)), p.inside)

  pub cr_past : {j : ℕ} → suc i ≡ j → (get_or s i 0 ≡ cr → ⊥) → Searched s from to j
  unfolding slice index_of
  cr_past {j} e n =
      record {
        within = p.within;
        inside = omega arith;
        same = p.same ∙ rw (← e, slice-cons i to s 0 h p.within, ne_eqb (get_or s i 0) cr n) (omega arith);
      }

-- What a search does at a byte.
pub ruleset search_on = (cr_here, cr_past)
