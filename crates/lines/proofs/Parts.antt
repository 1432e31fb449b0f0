-- However the input is cut into parts, cutting them one after the other gives the rows of the plain split of the whole, up
-- to the first that is longer than the line. By induction over the run, each step by the law of its answer.
-- Assumes nothing.
use Prim.Native.Nat.{ℕ, zero, suc, ◌-◌, ◌<◌, ◌≤◌}
use mathlib.Core.Bool.{Bool, false}
use mathlib.Core.List.{List, [], ◌∷◌, ◌++◌}
use mathlib.Core.Path.{◌≡◌, refl, sym, ap, subst}
use native.Mathlib.Omega.{arith}
use borrow.Author.Tests.{lt-ltb, le-ltb}
use lib.ListN.{length, take, drop, length-take}
use Rattle.common.specs.Answers.{Answer, gives, refuses}
use Rattle.lines.specs.Rows.{rows_of}
use Rattle.lines.specs.Cuts.{rows_from, cut_of, last_of}
use Rattle.lines.specs.Answers.{over_line, final_says}
use Rattle.lines.specs.Runs.{up_to, joined, row_in, Run}
use Rattle.lines.specs.Runs.Run.{row, more, over, ended}
use Rattle.lines.specs.declared.Taken.{Taken}
use Rattle.lines.specs.declared.Taken.TheVariants.{Row, More, Over}
use Rattle.lines.specs.declared.Final.{Final}
use Rattle.lines.specs.declared.Final.TheVariants.{Nothing, Last, Wider}
use Rattle.lines.proofs.Law.{StartsOver, LastTold, cut_law, last_law, start_law}

-- The first row counts: it is read, or over.
read_first : (most : ℕ) (first : List ℕ) (others : List (List ℕ)) → length first ≤ most
    → up_to most (first ∷ others) ≡ gives first ∷ up_to most others
unfolding up_to
read_first most first others h = rw (le-ltb most (length first) h)

over_first : (most : ℕ) (rows : List (List ℕ)) → StartsOver most rows → up_to most rows ≡ refuses over_line ∷ []
unfolding up_to
over_first most rows s = rw (s.are, lt-ltb most (length s.first) s.over)

at_last : (rows : List (List ℕ)) (r : Final) (line : List ℕ) → LastTold rows r line → row_in (final_says r line) ≡ up_to (length line) rows
unfolding up_to
at_last rows Nothing line t = rw t
at_last rows (Last n) line t =
    let h : length (take n line) ≤ length line = simp length-take (omega arith) in
    rw t.1 (sym (read_first (length line) (take n line) [] h))
at_last rows Wider line t = sym (over_first (length line) rows t)

pub run_law : {line : List ℕ} {len : ℕ} {c : Bool} {part : List ℕ} {from : ℕ} {parts : List (List ℕ)}
    {rows : List (Answer (List ℕ))}
    → Run line len c part from parts rows
    → rows ≡ up_to (length line) (rows_from (take len line) c (drop from part ++ joined parts))
run_law {line} {len} {c} {part} {from} {parts} (row {rows = rows} {used = used} {n = n} {line' = line'} e next) =
    let l = cut_law part from line len c (Row used n) line' e in
    let h : length (take n line') ≤ length line = simp length-take (omega (arith, l.0)) in
    let left = drop used part ++ joined parts in
    rw (l.1.are (joined parts), read_first (length line) (take n line') (rows_of left) h)
    (ap (λ (others : List (Answer (List ℕ))). gives (take n line') ∷ others) (rw (l.0, start_law left) at (run_law next)))
run_law {line} {len} {c} {part} {from} (more {next = p} {parts = parts} {n = n} {c' = c'} {line' = line'} e next) =
    let l = cut_law part from line len c (More n c') line' e in
    rw (l.1.are (p ++ joined parts)) (rw l.0 at (run_law next))
run_law {line} {len} {c} {part} {from} {parts} (over {line' = line'} e) =
    let l = cut_law part from line len c Over line' e in
    sym (over_first (length line) (rows_from (take len line) c (drop from part ++ joined parts)) (rw l.0 at (l.1 (joined parts))))
run_law {line} {len} {c} {part} {from} (ended {n = n} {c' = c'} {line' = line'} {r = r} {line'' = line''} e f) =
    let l = cut_law part from line len c (More n c') line' e in
    let m = last_law line' n c' r line'' f in
    rw (l.1.are [], ← l.0, ← m.0) (at_last (rows_from (take n line') c' []) r line'' m.1)

-- From the start of the input on: the rows of the whole.
pub parts_law : {line part : List ℕ} {parts : List (List ℕ)} {rows : List (Answer (List ℕ))}
    → Run line 0 false part 0 parts rows
    → rows ≡ up_to (length line) (rows_of (joined (part ∷ parts)))
parts_law {part = part} {parts = parts} run = rw (start_law (part ++ joined parts)) at (run_law run)

-- ---- Each input has its run, however it is cut

abbrev Made : List ℕ → ℕ → Bool → List ℕ → ℕ → List (List ℕ) → Type 0
Made line len c part from parts = (rows : List (Answer (List ℕ))) × Run line len c part from parts rows

-- How it goes on where a part is used up.
abbrev OnMore : List (List ℕ) → Type 0
OnMore parts =
    (part : List ℕ) (from : ℕ) (line : List ℕ) (len : ℕ) (c : Bool) (n : ℕ) (c' : Bool) (line' : List ℕ)
    → (More n c', line') ≡ cut_of part from line len c
    → Made line len c part from parts

by_answer : (parts : List (List ℕ)) → OnMore parts
    → (part : List ℕ) (from : ℕ) (line : List ℕ) (len : ℕ) (c : Bool) (r : Taken) (line' : List ℕ)
    → (r, line') ≡ cut_of part from line len c
    → ((used : ℕ) → from < used → used ≤ length part → Made line' 0 false part used parts)
    → Made line len c part from parts
by_answer parts m part from line len c (Row used n) line' e go =
    let t = (cut_law part from line len c (Row used n) line' e).1 in
    let next = go used t.forth t.inside in (gives (take n line') ∷ next.0, row e next.1)
by_answer parts m part from line len c (More n c') line' e go = m part from line len c n c' line' e
by_answer parts m part from line len c Over line' e go = (refuses over_line ∷ [], over e)

in_part : (parts : List (List ℕ)) → OnMore parts
    → (k : ℕ) (part : List ℕ) (from : ℕ) (line : List ℕ) (len : ℕ) (c : Bool)
    → length part - from < k
    → Made line len c part from parts
in_part parts m zero part from line len c h = absurd (omega arith)
in_part parts m (suc k) part from line len c h =
    let a = cut_of part from line len c in
    by_answer parts m part from line len c a.0 a.1 refl
    (λ used f i. in_part parts m k part used a.1 0 false (omega arith))

made : (parts : List (List ℕ)) (part : List ℕ) (from : ℕ) (line : List ℕ) (len : ℕ) (c : Bool) → Made line len c part from parts
made [] part from line len c =
    in_part []
    (λ q g l m d n d' l' e. let f = last_of l' n d' in (row_in (final_says f.0 f.1), ended e refl))
    (suc (length part - from)) part from line len c (omega arith)
made (p ∷ parts) part from line len c =
    in_part (p ∷ parts)
    (λ q g l m d n d' l' e. let next = made parts p 0 l' n d' in (next.0, more e next.1))
    (suc (length part - from)) part from line len c (omega arith)

-- Whatever the line held: the parts, one after the other, give the rows of the plain split of the whole, up to the first
-- that is longer than the line, and no other rows.
pub parts_rows : (line part : List ℕ) (parts : List (List ℕ))
    → Run line 0 false part 0 parts (up_to (length line) (rows_of (joined (part ∷ parts))))
parts_rows line part parts = let m = made parts part 0 line 0 false in subst (Run line 0 false part 0 parts) (parts_law m.1) m.1
