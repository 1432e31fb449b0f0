-- A whole part into one output buffer: what was to come is what is written of it and what is still to come. By induction over the turns, each of
-- which is a call of the reading. Then what a loop that takes these turns has to know.
-- Assumes nothing.
use Prim.Native.Nat.{ℕ, zero, suc, ◌+◌, ◌-◌, ◌<◌, ◌≤◌}
use native.Mathlib.Omega.{arith}
use mathlib.Core.Bool.{Bool, true, false, cond, ◌&&◌, false≢true}
use mathlib.Core.List.{List, [], ◌++◌, append_assoc, append-nil}
use mathlib.Core.Path.{◌≡◌, refl, sym, ap, ap₂, ◌∙◌}
use borrow.Author.Tests.{eq-eqb, ne_eqb, eqb-true, eqb-false, ltb-true, leb-true, leb-false, lt-ltb, le-ltb, le-leb}
use lib.Dec.{eqb, leb, ltb}
use lib.ListN.{length, take, drop, length-append, length-drop, drop_of_length-le}
use lib.Seq.{length-take-le, take_all, take_at, drop_at, take-add, drop-drop, take-append_seam, drop-append_seam}
use Rattle.lines.proofs.Steps.{either}
use Rattle.controller.specs.declared.State.{State}
use Rattle.reading.specs.declared.Came.TheVariants.{Nothing}
use Rattle.reading.specs.declared.Run.{Run}
use Rattle.reading.specs.Answers.{Next}
use Rattle.reading.specs.Rows.{has_ended}
use Rattle.reading.specs.Parts.{line_bytes, take_of, finish_of}
use Rattle.reading.specs.Runs.{Teller, Outcome, behind, Answer, calls, take_by, finish_by, to_come, Right, wrote}
use Rattle.reading.specs.Fills.{untouched, goes_on, call_from, joined, turn_from, fill_from, fill_by, Filled, Finished}
use Rattle.reading.proofs.ByParts.{take_right, finish_right}

-- ---- What the test says

both_true : (s t : Bool) → (s && t) ≡ true → (s ≡ true) × (t ≡ true)
both_true true t e = (refl, e)
both_true false t e = absurd (false≢true e)

-- Where there is a further turn, some of the part is left, and there is room.
record Goes {A : Type 0} (room : ℕ) (part : List ℕ) (so_far : Answer A) : Type 0 where
  left : so_far.0.used < length part
  has_room : room ≤ length so_far.2 - so_far.0.written

goes : {A : Type 0} (room : ℕ) (part : List ℕ) (so_far : Answer A) → goes_on room part so_far ≡ true → Goes room part so_far
goes room part so_far t =
    let front = both_true _ _ (both_true _ _ t).0 in record { left = ltb-true _ _ front.0; has_room = leb-true _ _ front.1 }

-- The end of the input is not refused where the line buffer is not.
finish_taken : (run : Run) (line : List ℕ) → length line ≡ line_bytes → (finish_of run line).0.refusal ≡ 0
unfolding finish_of
finish_taken run line full = rw (eq-eqb (length line) line_bytes full)

-- ---- Texts

-- A text behind a text.
pub two_texts : {A : Type 0} (p q : List ℕ) (o : Outcome A) → behind p (behind q o) ≡ behind (p ++ q) o
two_texts p q o = rw (append_assoc p q o.0)

-- A text behind the first `n` bytes of a buffer.
module _ (n : ℕ) (front text rest : List ℕ) (h : length front ≡ n) where
  put_front : take (n + length text) (front ++ (text ++ rest)) ≡ front ++ text
  put_front =
      take-add n (length text) (front ++ (text ++ rest))
      ∙ ap₂ (λ (l m : List ℕ). l ++ m) (take_at front (text ++ rest) n h)
      (ap (take (length text)) (drop_at front (text ++ rest) n h) ∙ take-append_seam text rest)

  put_past : drop (n + length text) (front ++ (text ++ rest)) ≡ rest
  put_past =
      sym (drop-drop (length text) n (front ++ (text ++ rest)))
      ∙ ap (drop (length text)) (drop_at front (text ++ rest) n h)
      ∙ drop-append_seam text rest

  put_fits : n + length text ≤ length (front ++ (text ++ rest))
  put_fits = simp length-append (omega arith)

-- ---- One turn

module _ {A : Type 0} (tell : Teller A) (quiet : (a : A) (before after : State) → tell a before Nothing after ≡ (a, [])) (room : ℕ) (part : List ℕ) where
  -- What is kept from turn to turn.
  record Kept (a : A) (run : Run) (line out : List ℕ) (so_far : Answer A) : Type 0 where
    taken : so_far.0.refusal ≡ 0
    full : length so_far.1 ≡ line_bytes
    inside : so_far.0.used ≤ length part
    fits : so_far.0.written ≤ length so_far.2
    past : drop so_far.0.written so_far.2 ≡ drop so_far.0.written out
    same : (rest : List ℕ)
        → to_come tell a run line (part ++ rest)
        ≡ behind (wrote so_far) (to_come tell so_far.0.carried so_far.0.run so_far.1 (drop so_far.0.used part ++ rest))

  -- Where there is room, the call is one of the reading.
  call_is : (so_far : Answer A) → room ≤ length so_far.2 - so_far.0.written
      → call_from tell room part so_far
      ≡ calls tell so_far.0.carried so_far.0.run (take_of so_far.0.run (drop so_far.0.used part) so_far.1) (drop so_far.0.written so_far.2)
  unfolding take_by
  call_is so_far fits =
      rw (le-ltb (length (drop so_far.0.written so_far.2)) room (omega (arith, length-drop so_far.0.written so_far.2)))

  call_right : (so_far : Answer A) → length so_far.1 ≡ line_bytes
      → Right tell so_far.0.carried so_far.0.run (drop so_far.0.used part) so_far.1 (take_of so_far.0.run (drop so_far.0.used part) so_far.1)
  call_right so_far full = take_right tell quiet so_far.0.carried so_far.0.run so_far.1 full (drop so_far.0.used part)

  module _ (a : A) (run : Run) (line out : List ℕ) where
    call_keeps : (so_far : Answer A) → Kept a run line out so_far → (next : Next × List ℕ)
        → Right tell so_far.0.carried so_far.0.run (drop so_far.0.used part) so_far.1 next
        → Kept a run line out (joined so_far (calls tell so_far.0.carried so_far.0.run next (drop so_far.0.written so_far.2)))
    call_keeps so_far k next right =
        let n = so_far.0.written in
        let u = so_far.0.used in
        let told = tell so_far.0.carried so_far.0.run.reading.state next.0.came next.0.run.reading.state in
        let text = told.1 in
        let front = take n so_far.2 in
        let rest = drop (length text) (drop n so_far.2) in
        let long = length-take-le n so_far.2 k.fits in
        record {
          taken = right.taken;
          full = right.full;
          inside = omega (arith, k.inside, right.inside, length-drop u part);
          fits = put_fits n front text rest long;
          past = put_past n front text rest long ∙ ap (drop (length text)) k.past ∙ drop-drop (length text) n out;
          same = λ more.
              rw (put_front n front text rest long, ← drop-drop next.0.used u part)
              (k.same more ∙ ap (behind front) (right.same more) ∙ two_texts front text _);
        }

    turn_keeps : (so_far : Answer A) → goes_on room part so_far ≡ true → Kept a run line out so_far
        → Kept a run line out (turn_from tell room part so_far)
    turn_keeps so_far t k =
        rw (call_is so_far (goes room part so_far t).has_room) (call_keeps so_far k _ (call_right so_far k.full))

    -- ---- All turns

    turns_keep : (turns : ℕ) (so_far : Answer A) → Kept a run line out so_far → Kept a run line out (fill_from tell room part turns so_far)
    unfolding fill_from
    turns_keep zero so_far k = k
    turns_keep (suc turns) so_far k =
        either (goes_on room part so_far) (λ t. rw t (turns_keep turns (turn_from tell room part so_far) (turn_keeps so_far t k))) (λ t. rw t k)

  -- A turn uses some of the part,
  turn_uses : (so_far : Answer A) → goes_on room part so_far ≡ true → length so_far.1 ≡ line_bytes
      → 0 < (call_from tell room part so_far).0.used
  turn_uses so_far t full =
      let g = goes room part so_far t in
      rw (call_is so_far g.has_room) ((call_right so_far full).forth (omega (arith, g.left, length-drop so_far.0.used part)))

  turn_full : (so_far : Answer A) → goes_on room part so_far ≡ true → length so_far.1 ≡ line_bytes
      → length (call_from tell room part so_far).1 ≡ line_bytes
  turn_full so_far t full = rw (call_is so_far (goes room part so_far t).has_room) (call_right so_far full).full

  -- and what is used stays used.
  turns_use : (turns : ℕ) (so_far : Answer A) (least : ℕ) → least ≤ so_far.0.used → least ≤ (fill_from tell room part turns so_far).0.used
  unfolding fill_from
  turns_use zero so_far least h = h
  turns_use (suc turns) so_far least h =
      either (goes_on room part so_far) (λ t. rw t (turns_use turns (turn_from tell room part so_far) least (omega arith))) (λ t. rw t h)

  goes_forth : (turns : ℕ) (so_far : Answer A) → 0 < turns → goes_on room part so_far ≡ true → length so_far.1 ≡ line_bytes
      → 0 < (fill_from tell room part turns so_far).0.used
  unfolding fill_from
  goes_forth zero so_far h t full = absurd (omega arith)
  goes_forth (suc turns) so_far h t full =
      let least : 1 ≤ (turn_from tell room part so_far).0.used = omega (arith, turn_uses so_far t full) in
      let some = turns_use turns (turn_from tell room part so_far) 1 least in rw t (omega (arith, some))

  -- Where there is no further turn, all is given.
  no_turn : (turns : ℕ) (so_far : Answer A) → goes_on room part so_far ≡ false → so_far ≡ fill_from tell room part turns so_far
  unfolding fill_from
  no_turn zero so_far t = refl
  no_turn (suc turns) so_far t = rw t

  -- With a turn for each byte that is left, it ends only where there is no further turn.
  turns_end : (turns : ℕ) (so_far : Answer A) → length so_far.1 ≡ line_bytes → length part ≤ so_far.0.used + turns
      → goes_on room part (fill_from tell room part turns so_far) ≡ false
  unfolding fill_from
  turns_end zero so_far full enough = rw (le-ltb so_far.0.used (length part) (omega arith))
  turns_end (suc turns) so_far full enough =
      either (goes_on room part so_far)
      (λ t.
      let some = turn_uses so_far t full in
      rw t (turns_end turns (turn_from tell room part so_far) (turn_full so_far t full) (omega (arith, some))))
      (λ t. rw t t)

  -- ---- The whole part

  module _ (a : A) (run : Run) (line out : List ℕ) where
    -- An output buffer that has no room, or a line buffer that is not 512 bytes, is refused, and all is as it was;
    pub refused_out : length out < room → fill_by tell room a run part line out ≡ untouched 8 a run line out
    unfolding fill_by
    refused_out short = rw (lt-ltb (length out) room short)

    pub refused_line : (length line ≡ line_bytes → ⊥) → fill_by tell room a run part line out ≡ untouched 8 a run line out
    unfolding fill_by
    refused_line other = rw (ne_eqb (length line) line_bytes other) (either (ltb (length out) room) (λ t. rw t) (λ t. rw t))

    -- with both, no turn is refused.
    filled : length line ≡ line_bytes → room ≤ length out
        → fill_by tell room a run part line out ≡ fill_from tell room part (length part) (untouched 0 a run line out)
    unfolding fill_by
    filled full long = rw (le-ltb (length out) room long, eq-eqb (length line) line_bytes full)

    module _ (full : length line ≡ line_bytes) (long : room ≤ length out) where
      begun : Kept a run line out (untouched 0 a run line out)
      begun =
          record {
            taken = refl;
            full = full;
            inside = omega arith;
            fits = omega arith;
            past = refl;
            same = λ rest. refl;
          }

      begins_on : 0 < length part → has_ended run.reading.phase ≡ false → goes_on room part (untouched 0 a run line out) ≡ true
      begins_on h unended = rw (lt-ltb 0 (length part) h, le-leb room (length out - 0) (omega arith), unended)

      -- What is right of it: what was to come is what is written and what is still to come.
      pub fill_right : Filled tell a run part line out (fill_by tell room a run part line out)
      fill_right =
          let start = untouched 0 a run line out in
          let k = turns_keep a run line out (length part) start begun in
          rw (filled full long)
          (record {
            taken = k.taken;
            full = k.full;
            inside = k.inside;
            forth = λ h unended. goes_forth (length part) start h (begins_on h unended) full;
            fits = k.fits;
            past = k.past;
            same = k.same;
          })

      -- It ends where the part is used up, a refusal has ended the reading, or there is no room for a further row, and not before.
      pub fill_ends : goes_on room part (fill_by tell room a run part line out) ≡ false
      fill_ends = rw (filled full long) (turns_end (length part) (untouched 0 a run line out) full (omega arith))

      -- The output buffer stays as long as it was, where what is written lies in it as it was lent.
      pub as_long : (fill_by tell room a run part line out).0.written ≤ length out
          → length (fill_by tell room a run part line out).2 ≡ length out
      as_long h =
          let n = (fill_by tell room a run part line out).0.written in
          let out' = (fill_by tell room a run part line out).2 in
          omega (arith, h, fill_right.fits, ap length fill_right.past, length-drop n out', length-drop n out)

    -- Refusal 8 exactly where one of the two buffers is refused.
    pub eight_exactly : (fill_by tell room a run part line out).0.refusal
        ≡ cond (leb room (length out) && eqb (length line) line_bytes) 0 8
    eight_exactly =
        either (leb room (length out))
        (λ s.
        either (eqb (length line) line_bytes) (λ t. rw (s, t) (fill_right (eqb-true _ _ t) (leb-true _ _ s)).taken)
        (λ t. rw (s, t, refused_line (eqb-false _ _ t))))
        (λ s. rw (s, refused_out (leb-false _ _ s)))

  -- ---- The end of the input

  pub finish_all : (a : A) (run : Run) (line out : List ℕ) → length line ≡ line_bytes → room ≤ length out
      → Finished tell a run line (finish_by tell room a run line out)
  unfolding finish_by
  finish_all a run line out full long =
      let next = finish_of run line in
      rw (le-ltb (length out) room long)
      (record {
        taken = finish_taken run line full;
        all =
            rw (take-append_seam (tell a run.reading.state next.0.came next.0.run.reading.state).1 _)
            (finish_right tell quiet a run line full);
      })

  -- ---- A loop that takes these turns

  -- From what is given so far, the turns that are left come to the answer; and they are enough.
  pub record Reaches (answer so_far : Answer A) : Type 0 where
    pub turns : ℕ
    pub enough : length part ≤ so_far.0.used + turns
    pub full : length so_far.1 ≡ line_bytes
    pub same : answer ≡ fill_from tell room part turns so_far

  -- It is so at the start,
  pub loop_begins : (a : A) (run : Run) (line out : List ℕ) → length line ≡ line_bytes → room ≤ length out
      → Reaches (fill_by tell room a run part line out) (untouched 0 a run line out)
  loop_begins a run line out full long =
      record { turns = length part; enough = omega arith; full = full; same = filled a run line out full long }

  module _ (answer so_far : Answer A) where
    next_turn : (turns : ℕ) → length part ≤ so_far.0.used + turns → length so_far.1 ≡ line_bytes
        → answer ≡ fill_from tell room part turns so_far
        → goes_on room part so_far ≡ true
        → Reaches answer (turn_from tell room part so_far)
    unfolding fill_from
    next_turn zero enough full same t = let g = goes room part so_far t in absurd (omega (arith, g.left))
    next_turn (suc turns) enough full same t =
        let some = turn_uses so_far t full in
        record {
          turns = turns;
          enough = omega (arith, some);
          full = turn_full so_far t full;
          same = rw t at same;
        }

    -- and after each turn, which uses some of the part;
    pub loop_again : Reaches answer so_far → goes_on room part so_far ≡ true
        → Reaches answer (turn_from tell room part so_far) × (0 < (call_from tell room part so_far).0.used)
    loop_again r t = (next_turn r.turns r.enough r.full r.same t, turn_uses so_far t r.full)

    -- and where there is no further turn, what is given so far is the answer.
    pub loop_ends : Reaches answer so_far → goes_on room part so_far ≡ false → so_far ≡ answer
    loop_ends r t = no_turn r.turns so_far t ∙ sym r.same

  -- A turn is a call with what is left of the part and of the output buffer, as they are lent.
  module _ (so_far : Answer A) where
    abbrev pub part_left : List ℕ
    part_left = take (length part - so_far.0.used) (drop so_far.0.used part)

    abbrev pub out_left : List ℕ
    out_left = take (length so_far.2 - so_far.0.written) (drop so_far.0.written so_far.2)

    -- What was given so far and what the call gave, with what was lent put back.
    abbrev pub put_back : Answer A → Answer A
    put_back call = (
      (joined so_far call).0,
      call.1,
      take so_far.0.written so_far.2 ++ (call.2 ++ drop (length so_far.2 - so_far.0.written) (drop so_far.0.written so_far.2)),
    )

    call_lent : (call : Answer A) → call ≡ take_by tell room so_far.0.carried so_far.0.run part_left so_far.1 out_left → call ≡ call_from tell room part so_far
    call_lent call e =
        let p = take_all (length part - so_far.0.used) (drop so_far.0.used part) (omega (arith, length-drop so_far.0.used part)) in
        let o = take_all (length so_far.2 - so_far.0.written) (drop so_far.0.written so_far.2) (omega (arith, length-drop so_far.0.written so_far.2)) in
        rw (p, o) at e

    turn_lent : (call : Answer A) → call ≡ call_from tell room part so_far → put_back call ≡ turn_from tell room part so_far
    turn_lent call e =
        let gone = drop_of_length-le (drop so_far.0.written so_far.2) {i = length so_far.2 - so_far.0.written} (omega (arith, length-drop so_far.0.written so_far.2)) in
        rw (gone, append-nil call.2) (ap (joined so_far) e)

    turn_taken : goes_on room part so_far ≡ true → length so_far.1 ≡ line_bytes → (call_from tell room part so_far).0.refusal ≡ 0
    turn_taken t full = rw (call_is so_far (goes room part so_far t).has_room) (call_right so_far full).taken

    -- It leads on to the answer, uses some of the part, and is not refused.
    pub record LedOn (answer call : Answer A) : Type 0 where
      pub reaches : Reaches answer (put_back call)
      pub uses : 0 < call.0.used
      pub taken : call.0.refusal ≡ 0

    pub led_on : (answer call : Answer A) → Reaches answer so_far → goes_on room part so_far ≡ true
        → call ≡ take_by tell room so_far.0.carried so_far.0.run part_left so_far.1 out_left → LedOn answer call
    led_on answer call r t e =
        let is = call_lent call e in
        let again = loop_again answer so_far r t in
        record { reaches = rw (turn_lent call is) again.0; uses = rw is again.1; taken = rw is (turn_taken t r.full) }
