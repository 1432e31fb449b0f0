-- A piece of text in a line, byte by byte or its last digit first, and the text that the line then holds.
-- Assumes nothing.
use Prim.Native.Nat.{ℕ, suc, ◌+◌, ◌-◌, ◌/◌, ◌%◌, ◌^◌, ◌<◌, ◌≤◌}
use native.Mathlib.Nat.{add_assoc, add-zero, zero-add}
use native.Mathlib.Omega.{arith}
use mathlib.Core.List.{List, [], ◌∷◌, ◌++◌, append_assoc, append-nil}
use mathlib.Core.Path.{◌≡◌, refl, sym, ap, ◌∙◌}
use Rattle.common.proofs.Pairs.{both}
use borrow.Author.Tests.{le-leb, lt-leb}
use borrow.Rule.Slice.PartMut.{mid_of, post_of, put_mid}
use lib.ListN.{length, set, take, drop, length-append, length-set, length-take, length-drop, take-append-drop}
use lib.Seq.{
  take-length,
  take_at,
  drop_at,
  drop-append-le,
  drop-drop,
  take-set-le,
  drop-cons,
  drop-set-lt,
  get_or-set_same,
  set_split,
  append_snoc,
  length-take-le,
}
use Rattle.common.specs.Decimal.{digit0, decimal}
use Rattle.common.proofs.Decimals.{decimal_one, decimal_more, one_more}
use Rattle.texts.specs.Puts.{Put, put_of}

-- The line with the piece in it.
abbrev pub placed : List ℕ → ℕ → List ℕ → List ℕ
placed before at piece = take at before ++ piece ++ drop (at + length piece) before

-- It is what `Put` says.
pub put_placed : (before : List ℕ) (at : ℕ) (piece after : List ℕ) (next : ℕ) → at ≤ length before
    → next ≡ at + length piece → length after ≡ length before → after ≡ placed before at piece → Put before at piece after next
put_placed before at piece after next room place size e =
    let front : length (take at before ++ piece) ≡ next = length-append (take at before) piece ∙ ap (λ (k : ℕ). k + length piece) (length-take-le at before room) ∙ sym place in
    record {
      place = place;
      size = size;
      text = ap (take next) e ∙ take_at (take at before ++ piece) (drop (at + length piece) before) next front;
      past =
          ap (drop next) e
          ∙ drop_at (take at before ++ piece) (drop (at + length piece) before) next front
          ∙ ap (λ (k : ℕ). drop k before) (sym place);
    }

-- ---- With room for the piece, and without

-- Without room nothing is put.
pub no_room : (line : List ℕ) (at : ℕ) (piece : List ℕ) → length line < at + length piece → (at, line) ≡ put_of line at piece
unfolding put_of
no_room line at piece h = simp (lt-leb (at + length piece) (length line) h)

module _ {before : List ℕ} {at : ℕ} {piece after : List ℕ} {next : ℕ} (room : at + length piece ≤ length before) where
  -- What `Put` says is the rule.
  pub as_put : Put before at piece after next → (next, after) ≡ put_of before at piece
  unfolding put_of
  as_put p =
      let same : after ≡ placed before at piece =
      sym (take-append-drop next after)
      ∙ ap (λ (l : List ℕ). l ++ drop next after) p.text
      ∙ ap (λ (l : List ℕ). (take at before ++ piece) ++ l) (p.past ∙ ap (λ (k : ℕ). drop k before) p.place)
      in
      rw (le-leb (at + length piece) (length before) room)
      (ap (λ (k : ℕ). (k, after)) p.place ∙ ap (λ (l : List ℕ). (at + length piece, l)) same)

  -- And the rule is what `Put` says.
  pub did_put : (next, after) ≡ put_of before at piece → Put before at piece after next
  unfolding put_of
  did_put e =
      let f = both (rw (le-leb (at + length piece) (length before) room) at e) in
      put_placed before at piece after next (omega arith) f.0 (ap length f.1 ∙ long) f.1
    where
      long : length (placed before at piece) ≡ length before
      long = simp (length-append, length-take, length-drop) (omega arith)

-- A piece copied into the part of the line from its place on.
pub copied : (line : List ℕ) (at n : ℕ) (piece part : List ℕ) → at + length piece ≤ length line → n ≡ length piece
    → part ≡ take (length piece) piece ++ drop (length piece) (mid_of at (length line - at) line)
    → (at + n, put_mid at (length line - at) line part) ≡ put_of line at piece
unfolding put_of
copied line at n piece part room long e =
    let all = length line - at in
    let k : length piece ≤ length (mid_of at all line) = simp (length-take, length-drop) (omega arith) in
    let behind : drop (length piece) (mid_of at all line) ++ post_of at all line ≡ drop (at + length piece) line =
    sym (drop-append-le (length piece) (mid_of at all line) (post_of at all line) k)
    ∙ ap (drop (length piece)) (take-append-drop all (drop at line))
    ∙ drop-drop (length piece) at line in
    rw (le-leb (at + length piece) (length line) room, long, e, take-length piece, append_assoc piece (drop (length piece) (mid_of at all line)) (post_of at all line), behind, append_assoc (take at line) piece (drop (at + length piece) line))

-- Nothing is put.
pub put_nothing : (line : List ℕ) (at : ℕ) → Put line at [] line at
put_nothing line at =
    record { place = sym (add-zero at); size = refl; text = sym (append-nil (take at line)); past = refl }

-- Two pieces, the second after the first, are one.
pub then : {before : List ℕ} {at : ℕ} {one between : List ℕ} {next : ℕ} {two after : List ℕ} {last : ℕ}
    → Put before at one between next → Put between next two after last → Put before at (one ++ two) after last
then {before} {at} {one} {between} {next} {two} {after} {last} p q =
    record {
      place = q.place ∙ rw (p.place, length-append) (add_assoc at (length one) (length two));
      size = q.size ∙ p.size;
      text = q.text ∙ ap (λ (l : List ℕ). l ++ two) p.text ∙ append_assoc (take at before) one two;
      past =
          q.past
          ∙ ap (λ (k : ℕ). drop k between) q.place
          ∙ sym (drop-drop (length two) next between)
          ∙ ap (drop (length two)) p.past
          ∙ drop-drop (length two) next before
          ∙ ap (λ (k : ℕ). drop k before) (sym q.place);
    }

-- A piece at the front: the place after it is its length, and the line is the piece and the bytes past it.
module _ {before piece after : List ℕ} {next : ℕ} (p : Put before 0 piece after next) where
  pub front_next : next ≡ length piece
  front_next = p.place ∙ zero-add (length piece)

  pub front_line : after ≡ piece ++ drop (length piece) before
  front_line =
      sym (take-append-drop next after)
      ∙ ap (λ (l : List ℕ). l ++ drop next after) p.text
      ∙ ap (λ (l : List ℕ). piece ++ l) p.past
      ∙ ap (λ (k : ℕ). piece ++ drop k before) front_next

-- ---- From the last digit on: the digits before the place are still to come.

drop_set : (line : List ℕ) (j d : ℕ) → j < length line → drop j (set line j d) ≡ d ∷ drop (suc j) line
drop_set line j d h =
    let h' : j < length (set line j d) = simp length-set h in
    rw (drop-cons (set line j d) j 0 h', get_or-set_same line j d 0 h, drop-set-lt (suc j) line j d (omega arith))

module _ (line : List ℕ) (at i n d : ℕ) (place : i ≡ at + length (decimal n)) (room : i ≤ length line) where
  -- A number's last digit, put before place i: with the digits of the tenth before that, the line is the same.
  pub last_digit_put : n < 2 ^ 64 → 10 ≤ n → d ≡ digit0 + n % 10
      → take at (set line (i - 1) d) ++ decimal (n / 10) ++ drop (i - 1) (set line (i - 1) d) ≡ take at line ++ decimal n ++ drop i line
  last_digit_put fits more e =
      let shorter = one_more n fits more in
      let back : suc (i - 1) ≡ i = omega (arith, shorter) in
      rw (take-set-le at line (i - 1) d (omega (arith, shorter)), drop_set line (i - 1) d (omega (arith, shorter)), back, decimal_more n fits more, e)
      (simp append_assoc)

  -- A number's only digit.
  pub only_digit_put : n < 10 → d ≡ digit0 + n → set line at d ≡ take at line ++ decimal n ++ drop i line
  only_digit_put few e =
      let one = decimal_one n few in
      let next : i ≡ suc at = omega (arith, ap length one) in
      rw (set_split line at d (omega arith), one, next, e, append_snoc)
