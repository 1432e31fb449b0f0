-- What the loop has done so far: what came of the parts that were read is what was put out, and what is still to come. A step keeps this, and at
-- the end nothing is still to come.
-- Assumes nothing.
use Rattle.std.proofs.Common.{◌≡◌, ℕ, zero, suc, ◌+◌, ◌-◌, ◌%◌, ◌^◌, ◌<◌, ◌≤◌, Bool, true, false, ◌||◌, T, ltb, List, [], ◌∷◌, ◌++◌, length, take, drop, replicate, sym, refl, ap, ◌∙◌, subst, append_assoc, append-nil, arith, eqb→eq, length-append, length-take, drop-drop, ltb-false, ltb-true}
use lib.Seq.{take-nil}
use Rattle.controller.specs.declared.State.{State}
use Rattle.reading.specs.Parts.{line_bytes}
use Rattle.reading.specs.Runs.{input_of}
use Rattle.loops.specs.declared.Progress.{Progress}
use Rattle.loops.specs.Progresses.{read_part, not_read, goes_on, left_in}
use Rattle.std.specs.Prelude.{Some}
use Rattle.common.proofs.Pairs.{both}
use Rattle.loops.proofs.Laws.{stops_at_the_end_or_a_refusal}
use Rattle.running.specs.declared.At.{At}
use Rattle.running.specs.declared.Ran.{Ran}
use Rattle.running.specs.Rules.{room, Answer, wrote, Come, behind, Rule, Right, RightLast, IsRight, whole_of}
use Rattle.running.specs.Loops.{left_of, AfterRead, AfterFill, Step, AfterLast, Through}
use Rattle.running.specs.Loops.AfterRead.{answers, again, fails}

-- So far: parts that were read, the text that was put out, and what is left of the last part.
pub record Along {A : Type 0} (rule : Rule A) (before : ℕ) (comes : List ℕ → Come A) (work : A) (line left : List ℕ) (put : ℕ) : Type 0 where
  pub parts : List (List ℕ)
  pub text : List ℕ
  pub same : (rest : List ℕ) → comes (input_of parts ++ rest) ≡ behind text (rule.all_of work line (left ++ rest))
  pub counted : put ≡ (before + length text) % 2 ^ 64

-- One part more.
input_more : (parts : List (List ℕ)) (part rest : List ℕ) → input_of (parts ++ part ∷ []) ++ rest ≡ input_of parts ++ (part ++ rest)
input_more [] part rest = ap (λ (l : List ℕ). l ++ rest) (append-nil part)
input_more (p ∷ parts) part rest =
    append_assoc p (input_of (parts ++ part ∷ [])) rest
    ∙ ap (◌++◌ p) (input_more parts part rest)
    ∙ sym (append_assoc p (input_of parts) (part ++ rest))

-- What is left of a list that was cut short.
drop_take : (m n : ℕ) (l : List ℕ) → drop m (take n l) ≡ take (n - m) (drop m l)
drop_take zero n l = let e : n - 0 ≡ n = omega arith in ap (λ (k : ℕ). take k l) (sym e)
drop_take (suc m) zero l =
    let e : 0 - suc m ≡ 0 = omega arith in ap (λ (k : ℕ). take k (drop (suc m) l)) (sym e)
drop_take (suc m) (suc n) [] = sym (take-nil (suc n - suc m))
drop_take (suc m) (suc n) (x ∷ l) =
    let e : n - m ≡ suc n - suc m = omega arith in drop_take m n l ∙ ap (λ (k : ℕ). take k (drop m l)) e

is_true : (b : Bool) → T b → b ≡ true
is_true true t = refl
is_true false t = absurd t

-- Where the loop begins nothing is left of a part.
pub begins : {A : Type 0} (rule : Rule A) (work : A) (line : List ℕ) (put : ℕ) → put < 2 ^ 64 → Along rule put (rule.all_of work line) work line [] put
begins rule work line put fits = record { parts = []; text = []; same = λ rest. refl; counted = omega arith }

module _ {A : Type 0} (rule : Rule A) (laws : IsRight rule) (before : ℕ) (comes : List ℕ → Come A) where
  module _ (work : A) (line : List ℕ) (put : ℕ) where
    -- A part is read where nothing is left of the one before.
    reads : Along rule before comes work line [] put → (part : List ℕ) → Along rule before comes work line part put
    reads a part =
        record {
          parts = a.parts ++ part ∷ [];
          text = a.text;
          same = λ rest. ap comes (input_more a.parts part rest) ∙ a.same (part ++ rest);
          counted = a.counted;
        }

    -- Some of it is taken in, and what that gives is put out.
    takes_in : (left : List ℕ) → Along rule before comes work line left put → (answer : Answer A) → Right rule work left line answer
        → answer.0.written ≤ length answer.2
        → Along rule before comes answer.0.work answer.1 (drop answer.0.used left) ((put + answer.0.written) % 2 ^ 64)
    takes_in left a answer right within =
        let long : length (wrote answer) ≡ answer.0.written = simp length-take (omega arith) in
        let both = length-append a.text (wrote answer) in
        record {
          parts = a.parts;
          text = a.text ++ wrote answer;
          same = λ rest.
              a.same rest
              ∙ ap (behind a.text) (right.same rest)
              ∙ ap (λ (l : List ℕ). (l, (rule.all_of answer.0.work answer.1 (drop answer.0.used left ++ rest)).1))
              (sym (append_assoc a.text (wrote answer) (rule.all_of answer.0.work answer.1 (drop answer.0.used left ++ rest)).0));
          counted = omega (arith, a.counted, long, both);
        }

    -- At the end, or where a refusal has ended the reading, only the last row is to come.
    ends : (left : List ℕ) → Along rule before comes work line left put → (rule.all_of work line (left ++ []) ≡ rule.all_of work line [])
        → (ran : Ran A) (answer : Answer A) → RightLast rule work line answer → answer.0.written ≤ length answer.2
        → ran.work ≡ answer.0.work → ran.put ≡ (put + answer.0.written) % 2 ^ 64 → T (ran.end || rule.is_ended ran.work)
        → Through rule before comes ran
    ends left a nothing ran answer right within w p over =
        let long : length (wrote answer) ≡ answer.0.written = simp length-take (omega arith) in
        let both = length-append a.text (wrote answer) in
        record {
          parts = a.parts;
          text = a.text ++ wrote answer;
          whole =
              ap comes (sym (append-nil (input_of a.parts)))
              ∙ a.same []
              ∙ ap (behind a.text) (nothing ∙ right.all)
              ∙ ap (λ (x : A). (a.text ++ wrote answer, x)) (sym w);
          counted = omega (arith, a.counted, p, long, both);
          over = over;
        }

  -- ---- A step

  -- What a step keeps: the line buffer's length, the part inside the input buffer, what was done so far, and that the end of the input leaves
  -- nothing.
  pub record Kept (input line : List ℕ) (after : At A) : Type 0 where
    pub full : length line ≡ line_bytes
    pub ordered : after.progress.left ≤ after.progress.to
    pub inside : after.progress.to ≤ length input
    pub so_far : Along rule before comes after.work line (left_of after input) after.progress.put
    pub over : T after.progress.end → left_of after input ≡ []

  -- By what a read came to.
  module _ (work : A) (line input : List ℕ) (full : length line ≡ line_bytes) (put : ℕ) (a : Along rule before comes work line [] put) where
    read_keeps : (place after : Progress) → place.put ≡ put → AfterRead place (Some after) input → Kept input line (record { work = work; progress = after })
    read_keeps place after e (answers n fits r) =
        let is : after ≡ read_part place n = cc in
        rw is (record {
          full = full;
          ordered = omega arith;
          inside = fits;
          so_far = rw e (reads work line put a (left_in (read_part place n) input));
          over = λ t. ap (λ (k : ℕ). take k (drop (n - n) input)) (eqb→eq n 0 t);
        })
    read_keeps place after e (again r) =
        let is : after ≡ not_read place = cc in
        rw is (record {
          full = full;
          ordered = omega arith;
          inside = omega arith;
          so_far = rw e (reads work line put a []);
          over = λ t. refl;
        })
    read_keeps place after e (fails r) = absurd (cc)

  module _ (place after : At A) (input input' line line' out out' : List ℕ) (full : length line ≡ line_bytes) (long : room ≤ length out)
      (ordered : place.progress.left ≤ place.progress.to) (inside : place.progress.to ≤ length input) (going : place.progress.end ≡ false)
      (a : Along rule before comes place.work line (left_of place input) place.progress.put) where
    by_read : place.progress.left ≡ 0 → after.work ≡ place.work → AfterRead place.progress (Some after.progress) input' → line' ≡ line
        → Kept input' line' after
    by_read h w r e =
        let nothing : left_of place input ≡ [] = ap (λ (k : ℕ). take k (drop (place.progress.to - place.progress.left) input)) h in
        let here = subst (λ (l : List ℕ). Along rule before comes place.work line l place.progress.put) nothing a in
        rw e (subst (λ (x : A). Kept input' line (record { work = x; progress = after.progress })) (sym w)
        (read_keeps place.work line input' full place.progress.put here place.progress after.progress refl r))

    by_fill : input' ≡ input → AfterFill rule place (Some after) input' line line' out out' → Kept input' line' after
    by_fill e f =
        let left = left_of place input' in
        let answer = rule.fill_of place.work left line out in
        let p = place.progress in
        let here = subst (λ (l : List ℕ). Along rule before comes place.work line (left_of place l) p.put) (sym e) a in
        let lent : (line' ≡ answer.1) × (out' ≡ answer.2) = both f.lent in
        let right = laws.fill_right place.work left line out full long in
        let next = takes_in place.work line p.put left here answer right (rw (← lent.1) f.within) in
        let at : p.to - p.left + answer.0.used ≡ p.to - (p.left - answer.0.used) = omega (arith, f.inside) in
        let rest : drop answer.0.used left ≡ take (p.left - answer.0.used) (drop (p.to - (p.left - answer.0.used)) input') =
        drop_take answer.0.used p.left (drop (p.to - p.left) input')
        ∙ ap (λ (l : List ℕ). take (p.left - answer.0.used) l) (drop-drop answer.0.used (p.to - p.left) input')
        ∙ ap (λ (k : ℕ). take (p.left - answer.0.used) (drop k input')) at in
        rw (f.taken, lent.0) (record {
          full = right.full;
          ordered = omega arith;
          inside = rw e inside;
          so_far = subst (λ (l : List ℕ). Along rule before comes answer.0.work answer.1 l ((p.put + answer.0.written) % 2 ^ 64)) rest next;
          over = λ t. absurd (rw going at t);
        })

    pub stepped : Step rule place (Some after) input input' line line' out out' → Kept input' line' after
    stepped s = by_test (ltb 0 place.progress.left) refl where
      by_test : (t : Bool) → ltb 0 place.progress.left ≡ t → Kept input' line' after
      by_test true e = let in_part = s.takes_in (ltb-true _ _ e) in by_fill in_part.0 in_part.1
      by_test false e =
          let none : place.progress.left ≡ 0 = omega (arith, ltb-false 0 place.progress.left e) in
          let in_read = s.reads none in
          by_read none in_read.0 in_read.1 in_read.2

  -- ---- The end

  module _ (place : At A) (ran : Ran A) (input line line' out out' : List ℕ) (long : room ≤ length out) (kept : Kept input line place)
      (stop : goes_on place.progress (rule.is_ended place.work) ≡ false) (f : AfterLast rule place ran line line' out out') where
    pub finished : Through rule before comes ran
    finished =
        by_end place.progress.end refl
        (stops_at_the_end_or_a_refusal place.progress (rule.is_ended place.work) stop) where
          done : rule.all_of place.work line (left_of place input ++ []) ≡ rule.all_of place.work line [] → T (ran.end || rule.is_ended ran.work)
              → Through rule before comes ran
          done nothing o =
              let last : out' ≡ (rule.last_of place.work line out).2 = ap (λ (x : Ran A × List ℕ × List ℕ). x.2) f.taken in
              ends place.work line place.progress.put (left_of place input) kept.so_far nothing ran (rule.last_of place.work line out)
              (laws.last_right place.work line out kept.full long) (rw (← last) f.within)
              (ap (λ (x : Ran A × List ℕ × List ℕ). x.0.work) f.taken) (ap (λ (x : Ran A × List ℕ × List ℕ). x.0.put) f.taken) o

          by_end : (end : Bool) → place.progress.end ≡ end → T (end || rule.is_ended place.work) → Through rule before comes ran
          by_end true e t =
              let none = kept.over (rw e Prim.tt) in
              let reached : ran.end ≡ true = ap (λ (x : Ran A × List ℕ × List ℕ). x.0.end) f.taken ∙ e in
              done (ap (λ (l : List ℕ). rule.all_of place.work line (l ++ [])) none) (rw reached Prim.tt)
          by_end false e t =
              let h = is_true (rule.is_ended place.work) t in
              let reached : ran.end ≡ false = ap (λ (x : Ran A × List ℕ × List ℕ). x.0.end) f.taken ∙ e in
              let w : ran.work ≡ (rule.last_of place.work line out).0.work = ap (λ (x : Ran A × List ℕ × List ℕ). x.0.work) f.taken in
              done (laws.ended_for_good place.work line (left_of place input ++ []) h ∙ sym (laws.ended_for_good place.work line [] h))
              (rw (reached, w, laws.stays_ended place.work line out kept.full long h) Prim.tt)

-- The header stands in front of the whole.
pub through_whole : {A : Type 0} (rule : Rule A) (state : State) (start : A) (n : ℕ) (ran : Ran A) → start ≡ rule.start state → n ≡ length rule.header
    → Through rule n (rule.all_of start (replicate line_bytes 0)) ran → Through rule 0 (whole_of rule state) ran
unfolding whole_of
through_whole rule state start n ran w e t =
    let both = length-append rule.header t.text in
    record {
      parts = t.parts;
      text = rule.header ++ t.text;
      whole = ap (behind rule.header) (ap (λ (x : _). rule.all_of x (replicate line_bytes 0) (input_of t.parts)) (sym w) ∙ t.whole);
      counted = omega (arith, t.counted, both);
      over = t.over;
    }
