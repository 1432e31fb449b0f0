-- The reader over calls: however a dump is cut into parts, with any buffers of 26 bytes, the calls of `take` and the call of `finish`
-- give the moments of the whole reading, each with its values in the buffer of its call, and 9 exactly where the bytes are no dump.
-- Assumes nothing.
use Prim.Native.Nat.{ℕ, zero, suc, ◌<◌, ◌≤◌}
use native.Mathlib.Omega.{arith}
use mathlib.Core.Bool.{Bool, true, false, cond}
use mathlib.Core.List.{List, [], ◌∷◌, ◌++◌, map, append_assoc}
use mathlib.Core.Logic.{◌↔◌}
use mathlib.Core.Path.{◌≡◌, refl, sym, ap, ◌∙◌}
use borrow.Author.Tests.{ne_eqb}
use lib.Dec.{eqb}
use lib.ListN.{length, drop, length-drop, length-append}
use lib.Seq.{drop-length}
use Rattle.common.specs.Answers.{gives, refuses}
use Rattle.dump.specs.Wires.{wires}
use Rattle.dump.specs.Dumps.{Moment, Rising, dump_of}
use Rattle.readback.specs.declared.Reader.{Reader}
use Rattle.readback.specs.Answers.{Took}
use Rattle.readback.specs.Bytes.{new_reader, byte_of}
use Rattle.readback.specs.Reads.{is_bad, complete, begins, moment_of, before, read_from, read_of, bits, take_of, finish_of}
use Rattle.readback.specs.Calls.{
  Given,
  ahead,
  given_from,
  given_of,
  answered,
  dump_in,
  heard,
  in_turns,
  turns_for,
  in_calls,
  AllWide,
}
use Rattle.readback.proofs.Exact.{nine_exactly}
use Rattle.readback.proofs.Parts.{through, Plain, Comes, take_comes, drop_front, last_by, finish_comes}
use Rattle.readback.proofs.Parts.Comes.{to_its_end, to_a_moment, to_nothing}
use Rattle.readback.proofs.Places.{refusal_gives_nothing, refused_for_good}

-- ---- What is given is what is read

-- One moment more.
answered_ahead : (m : Moment) (ms : List Moment) (n : ℕ) → before m (answered (ms, n)) ≡ answered (ahead m (ms, n))
answered_ahead m ms n = by_test (eqb n 0) where
  by_test : (t : Bool) → before m (cond t (gives ms) (refuses n)) ≡ cond t (gives (m ∷ ms)) (refuses n)
  by_test true = refl
  by_test false = refl

read_from_lem : (bytes : List ℕ) (r : Reader) → read_from r bytes ≡ answered (given_from r bytes)
unfolding read_from given_from
read_from_lem [] r = by_test (complete r) where
  by_test : (t : Bool) → cond t (gives (moment_of r ∷ [])) (refuses 9) ≡ answered (cond t (moment_of r ∷ [], 0) ([], 9))
  by_test true = refl
  by_test false = refl
read_from_lem (b ∷ bytes) r = by_tests (is_bad (byte_of r b).place) (begins r b) refl (read_from_lem bytes (byte_of r b)) where
  bad_for_good : is_bad (byte_of r b).place ≡ true → read_from (byte_of r b) bytes ≡ refuses 9
  bad_for_good = refused_for_good (byte_of r b).place (byte_of r b).time (byte_of r b).next (byte_of r b).values bytes

  by_tests : (s t : Bool) → is_bad (byte_of r b).place ≡ s → read_from (byte_of r b) bytes ≡ answered (given_from (byte_of r b) bytes)
      → cond t (before (moment_of r) (read_from (byte_of r b) bytes)) (read_from (byte_of r b) bytes)
      ≡ answered (cond s ([], 9) (cond t (ahead (moment_of r) (given_from (byte_of r b) bytes)) (given_from (byte_of r b) bytes)))
  by_tests true true e others = ap (before (moment_of r)) (bad_for_good e)
  by_tests true false e others = bad_for_good e
  by_tests false true e others =
      ap (before (moment_of r)) others
      ∙ answered_ahead (moment_of r) (given_from (byte_of r b) bytes).0 (given_from (byte_of r b) bytes).1
  by_tests false false e others = others

-- The moments in front of the refused byte, and 0 or 9, are the reading's own answer: a dump gives its moments, and what is no dump is
-- refused.
pub read_is_given : (bytes : List ℕ) → read_of bytes ≡ answered (given_of bytes)
unfolding read_of given_of
read_is_given bytes = read_from_lem bytes new_reader

not_nothing : (n : ℕ) → eqb (suc n) 0 ≡ false
not_nothing n = ne_eqb (suc n) 0 (λ e. omega arith)

-- So a dump gives the moments that are read of it.
pub dump_gives : (bytes : List ℕ) (ms : List Moment) → read_of bytes ≡ gives ms → given_of bytes ≡ (ms, 0)
dump_gives bytes ms e = by_number (given_of bytes).0 (given_of bytes).1 (sym (read_is_given bytes) ∙ e) where
  by_number : (all : List Moment) (n : ℕ) → answered (all, n) ≡ gives ms → ◌≡◌ {A = Given} (all, n) (ms, 0)
  by_number all zero f = cc
  by_number all (suc n) f = refusal_gives_nothing (rw (not_nothing n) at f)

-- A 9 is the answer's own.
nine_answered : (ms : List Moment) (n : ℕ) → n ≡ 9 → answered (ms, n) ≡ refuses 9
nine_answered ms n e = rw e

answered_nine : (ms : List Moment) (n : ℕ) → answered (ms, n) ≡ refuses 9 → n ≡ 9
answered_nine ms zero e = refusal_gives_nothing (sym e)
answered_nine ms (suc n) e = let same = rw (not_nothing n) at e in cc

-- ---- A call

-- The values as the buffer has them.
values_back : (vs : List Bool) → map (λ (b : ℕ). eqb b 1) (bits vs) ≡ vs
values_back [] = refl
values_back (true ∷ vs) = ap (λ (l : List Bool). true ∷ l) (values_back vs)
values_back (false ∷ vs) = ap (λ (l : List Bool). false ∷ l) (values_back vs)

-- Plain bytes give nothing.
plain_given : (front : List ℕ) (r : Reader) (rest : List ℕ) → Plain r front → given_from r (front ++ rest) ≡ given_from (through r front) rest
unfolding given_from
plain_given [] r rest p = refl
plain_given (b ∷ front) r rest p = rw (p.0, p.1) (plain_given front (byte_of r b) rest p.2)

-- A byte that begins a moment gives the one before it, and one that no dump has there is the 9.
begun_given : (r : Reader) (b : ℕ) (rest : List ℕ) → is_bad (byte_of r b).place ≡ false → begins r b ≡ true
    → given_from r (b ∷ rest) ≡ ahead (moment_of r) (given_from (byte_of r b) rest)
unfolding given_from
begun_given r b rest f g = rw (f, g)

bad_given : (r : Reader) (b : ℕ) (rest : List ℕ) → is_bad (byte_of r b).place ≡ true → given_from r (b ∷ rest) ≡ ([], 9)
unfolding given_from
bad_given r b rest f = rw f

-- What a call gives, and then what is given from its reader on, is what is given of all.
one_call : (r : Reader) {part : List ℕ} (values rest : List ℕ) {answer : Took × List ℕ} (others : Given) → Comes r values r 0 part answer
    → 0 < length part
    → (0 < answer.0.used → answer.0.used ≤ length part → others ≡ given_from answer.0.reader (drop answer.0.used part ++ rest))
    → heard answer others ≡ given_from r (part ++ rest)
one_call r values rest others (to_its_end bytes n size p) some on =
    let same : n ≡ length bytes = omega arith in
    on (omega arith) (omega arith) ∙ rw (same, drop-length bytes) (sym (plain_given bytes r rest p))
one_call r values rest others (to_a_moment front b back n size p f g) some on =
    let same : n ≡ suc (length front) = omega arith in
    let vs = (through r front).values in
    ap (λ (g : Given). ahead (record { time = (through r front).time; values = map (λ (b : ℕ). eqb b 1) (bits vs) }) g)
    (on (omega arith) (simp length-append (omega arith)))
    ∙ rw (values_back vs, same, drop_front front b back, append_assoc front (b ∷ back) rest)
    (sym (plain_given front r (b ∷ back ++ rest) p ∙ begun_given (through r front) b (back ++ rest) f g))
one_call r values rest others (to_nothing front b back n size p f) some on =
    rw (append_assoc front (b ∷ back) rest) (sym (plain_given front r (b ∷ back ++ rest) p ∙ bad_given (through r front) b (back ++ rest) f))

-- The end of the dump gives what is left.
last_call : (r : Reader) (values : List ℕ) → length values ≡ wires → heard (finish_of r values) ([], 0) ≡ given_from r []
unfolding given_from
last_call r values size = rw (finish_comes r values size) (by_test (complete r)) where
  by_test : (t : Bool) → heard (last_by t r values) ([], 0) ≡ cond t (moment_of r ∷ [], 0) ([], 9)
  by_test true = ap (λ (vs : List Bool). (record { time = r.time; values = vs } ∷ [], 0)) (values_back r.values)
  by_test false = refl

-- ---- All calls

module _ (lends : ℕ → List ℕ) (wide : AllWide lends) where
  in_turns_lem : (turns : ℕ) (r : Reader) (parts : List (List ℕ)) → turns_for parts ≤ turns
      → in_turns lends turns r parts ≡ given_from r (dump_in parts)
  unfolding in_turns
  in_turns_lem zero r [] enough = absurd (omega arith)
  in_turns_lem zero r (part ∷ parts) enough = absurd (omega arith)
  in_turns_lem (suc turns) r [] enough = last_call r (lends turns) (wide turns)
  in_turns_lem (suc turns) r ([] ∷ parts) enough = in_turns_lem turns r parts (omega arith)
  in_turns_lem (suc turns) r ((b ∷ part) ∷ parts) enough =
      let answer = take_of r (b ∷ part) (lends turns) in
      let fewer = length-drop answer.0.used (b ∷ part) in
      one_call r (lends turns) (dump_in parts) _ (take_comes r (b ∷ part) (lends turns) (wide turns)) (omega arith)
      (λ some inside. in_turns_lem turns answer.0.reader (drop answer.0.used (b ∷ part) ∷ parts) (omega (arith, enough, fewer, some, inside)))

  -- However a dump is cut: the calls give the moments in front of the byte that is refused, or all, and then 9, or 0.
  pub calls_give : (parts : List (List ℕ)) → in_calls lends parts ≡ given_of (dump_in parts)
  unfolding given_of
  calls_give parts = in_turns_lem (turns_for parts) new_reader parts (omega arith)

  -- So they give what is read of the whole.
  pub calls_read : (parts : List (List ℕ)) → answered (in_calls lends parts) ≡ read_of (dump_in parts)
  calls_read parts = ap answered (calls_give parts) ∙ sym (read_is_given (dump_in parts))

  -- And they are refused, with 9, exactly for what the writer writes for no list of values at times rising from 0 and below 2 ^ 64.
  pub calls_nine_exactly : (parts : List (List ℕ))
      → ((in_calls lends parts).1 ≡ 9) ↔ ((ms : List Moment) → Rising ms → dump_of ms ≡ dump_in parts → ⊥)
  calls_nine_exactly parts =
      let exactly = nine_exactly (dump_in parts) in (
        λ e. exactly.0 (sym (calls_read parts) ∙ nine_answered (in_calls lends parts).0 (in_calls lends parts).1 e),
        λ none. answered_nine (in_calls lends parts).0 (in_calls lends parts).1 (calls_read parts ∙ exactly.1 none),
      )
