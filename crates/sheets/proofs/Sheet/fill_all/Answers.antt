-- `sheets::Sheet::fill_all` meets its contract. The loop's invariant: the rule gives for the whole part what it gives from here on, behind the text
-- that stands in front of the output buffer.
-- Assumes nothing.
use Rattle.std.proofs.Common.{◌≡◌, ℕ, ◌+◌, ◌-◌, ◌≤◌, Ok, List, [], length, take, drop, replicate, sym, refl, ap, ◌∙◌, subst, arith, length-drop, take_all, drop_of_length-le, drop-drop}
use Rattle.dump.specs.Wires.{wires}
use Rattle.sheets.specs.declared.Sheet.{Sheet}
use Rattle.sheets.specs.declared.Turn.{Turn}
use Rattle.sheets.specs.declared.Took.{Took as Given}
use Rattle.sheets.specs.Answers.{took_says}
use Rattle.readback.specs.Reads.{take_of}
use Rattle.sheets.specs.Sheets.{row_room, sheet_row}
use Rattle.sheets.specs.Runs.{with_row, fill_from, turn_by}
use Rattle.sheets.proofs.Filling.{with_text, none_fills, Turned, turned, as_filled, past_row, stops, goes_on}
use Rattle.sheets.proofs.Sheet.fill_all.Goals as goal
use Rattle.sheets.proofs.Sheet.fill_all.Goals.{After-next-turn, After-with_row-sheet}

-- What the reader made of the rest of the part.
turn_law : (c : After-next-turn)
    → (let l = c.loop-used in
    let a = c.args in
    Turned (length a.out.now) (take l.written l.out) l.sheet l.used (drop l.used a.part.now) c.next-turn.result)
turn_law c =
    let l = c.loop-used in
    let a = c.args in
    let rest = drop l.used a.part.now in
    let text = take l.written l.out in
    let same : take (length a.part.now - l.used) rest ≡ rest = take_all (length a.part.now - l.used) rest (simp length-drop (omega arith)) in
    subst (λ (t : Turn). Turned (length a.out.now) text l.sheet l.used rest t)
    (sym (c.next-turn.ensures ∙ ap (λ (bytes : List ℕ). turn_by l.sheet bytes (take_of l.sheet.reader bytes (replicate wires 0)).0) same))
    (turned (length a.out.now) text l.sheet l.used rest (replicate wires 0) l.invariant.1 refl)

-- The output buffer stays as long as it was, where a row is put into it,
row_kept : (c : After-with_row-sheet)
    → length c.row_at-written.new.out
    ≡ length c.args.out.now
row_kept c =
    c.row_at-written.ensures.1.size ∙ c.loop-used.invariant.2

-- and the rule goes on behind the row.
row_law : (c : After-with_row-sheet)
    → (let l = c.loop-used in
    let a = c.args in
    let t = c.next-turn.result in
    fill_from (length a.out.now) a.self 0 [] a.part.now
    ≡ with_text (length a.out.now) (take l.written l.out) (sheet_row c.in-Some.time t.sheet.reader.values) (with_row t.sheet) (l.used + t.used)
    (drop t.used (drop l.used a.part.now)))
row_law c =
    c.loop-used.invariant.5 ∙ (turn_law (goal.at.After-with_row-sheet c).After-next-turn).at_row c.if-turn.false c.in-Some.is

pub returns-then-turn : goal.returns-then-turn
returns-then-turn c = let l = c.loop-used in
    let a = c.args in
    let all : l.used + length (drop l.used a.part.now) ≡ length a.part.now = simp length-drop (omega arith) in
    let text = take l.written l.out in
    let s = c.next-turn.result.sheet in record {
      out_after = ap (λ (t : Given). (took_says a.self (Ok t), l.out)) c.took.ensures
          ∙ as_filled s (length a.part.now) l.written l.out a.out.now (omega arith) l.invariant.4
          (l.invariant.5 ∙ (turn_law (goal.at.returns-then-turn c).After-next-turn).at_nine c.if-turn.true ∙ ap (λ (k : ℕ). (s, k, text)) all);
      used_in_bounds = (rw c.took.ensures (omega arith), rw c.took.ensures (omega arith));
    }

pub overflow_add-used : goal.overflow_add-used
overflow_add-used c =
    let l = c.loop-used in
    omega (arith, (turn_law (goal.at.overflow_add-used c).After-next-turn).inside, length-drop l.used c.args.part.now, c.well_formed.1.0.0)

pub returns-in_default : goal.returns-in_default
returns-in_default c = let l = c.loop-used in
    let a = c.args in
    let t = c.next-turn.result in
    let inside : l.used + t.used ≤ length a.part.now = omega (arith, (turn_law (goal.at.returns-in_default c).After-next-turn).inside, length-drop l.used a.part.now) in record {
      out_after = ap (λ (t : Given). (took_says a.self (Ok t), l.out)) c.took-in_default.ensures
          ∙ as_filled t.sheet (l.used + t.used) l.written l.out a.out.now (omega arith) l.invariant.4
          (l.invariant.5 ∙ (turn_law (goal.at.returns-in_default c).After-next-turn).at_end c.if-turn.false c.in_default.is);
      used_in_bounds = (rw c.took-in_default.ensures inside, rw c.took-in_default.ensures (omega arith));
    }

pub shape_of-out-then-out-written-lt-ROOM : goal.shape_of-out-then-out-written-lt-ROOM
shape_of-out-then-out-written-lt-ROOM c = row_kept (goal.at.shape_of-out-then-out-written-lt-ROOM c).After-with_row-sheet

pub returns-then-out-written-lt-ROOM : goal.returns-then-out-written-lt-ROOM
returns-then-out-written-lt-ROOM c = let l = c.loop-used in
    let a = c.args in
    let t = c.next-turn.result in
    let put = c.row_at-written.ensures.1 in
    let size = length a.out.now in
    let kept = row_kept (goal.at.returns-then-out-written-lt-ROOM c).After-with_row-sheet in
    let within : c.row_at-written.result ≤ length c.row_at-written.new.out = omega (arith, c.row_at-written.ensures.0, l.invariant.3, kept) in
    let inside : l.used + t.used ≤ length a.part.now = omega (arith, (turn_law (goal.at.returns-then-out-written-lt-ROOM c).After-next-turn).inside, length-drop l.used a.part.now) in record {
      out_after = ap (λ (t : Given). (took_says a.self (Ok t), c.row_at-written.new.out)) c.took-then-out-written-lt-ROOM.ensures
          ∙ ap (λ (s : Sheet). (record { sheet = s; used = l.used + t.used; written = c.row_at-written.result; refusal = 0 }, c.row_at-written.new.out)) c.with_row-sheet.ensures
          ∙ as_filled (with_row t.sheet) (l.used + t.used) c.row_at-written.result c.row_at-written.new.out a.out.now within (past_row a.out.now put l.invariant.4)
          (row_law (goal.at.returns-then-out-written-lt-ROOM c).After-with_row-sheet ∙ stops size put within (with_row t.sheet) (l.used + t.used) _ (omega (arith, c.if-out-written-lt-ROOM.true, within, kept)));
      used_in_bounds = (rw c.took-then-out-written-lt-ROOM.ensures inside, rw c.took-then-out-written-lt-ROOM.ensures (omega (arith, within, kept)));
    }

pub loop-used-smaller : goal.loop-used-smaller
loop-used-smaller c =
    let l = c.loop-used in
    let part = c.args.part.now in
    let left = length-drop l.used part in
    omega (arith, (turn_law (goal.at.loop-used-smaller c).After-next-turn).inside, (turn_law (goal.at.loop-used-smaller c).After-next-turn).forth c.if-turn.false (omega (arith, left)), left)

pub loop-used-preserved : goal.loop-used-preserved
loop-used-preserved c =
    let l = c.loop-used in
    let a = c.args in
    let t = c.next-turn.result in
    let put = c.row_at-written.ensures.1 in
    let size = length a.out.now in
    let kept = row_kept (goal.at.loop-used-preserved c).After-with_row-sheet in
    let within : c.row_at-written.result ≤ length c.row_at-written.new.out = omega (arith, c.row_at-written.ensures.0, l.invariant.3, kept) in
    let room : c.row_at-written.result + row_room ≤ size = omega (arith, c.if-out-written-lt-ROOM.false, within, kept) in (
      omega (arith, (turn_law (goal.at.loop-used-preserved c).After-next-turn).inside, length-drop l.used a.part.now),
      ap (λ (s : Sheet). s.nine) c.with_row-sheet.ensures,
      kept,
      room,
      past_row a.out.now put l.invariant.4,
      row_law (goal.at.loop-used-preserved c).After-with_row-sheet
          ∙ goes_on size put within (with_row t.sheet) (l.used + t.used) _ room
          ∙ ap (λ (bytes : List ℕ). fill_from size (with_row t.sheet) (l.used + t.used) (take c.row_at-written.result c.row_at-written.new.out) bytes) (drop-drop t.used l.used a.part.now)
          ∙ ap (λ (s : Sheet). fill_from size s (l.used + t.used) (take c.row_at-written.result c.row_at-written.new.out) (drop (l.used + t.used) a.part.now)) (sym c.with_row-sheet.ensures),
    )

pub returns : goal.returns
returns c = let l = c.loop-used in
    let a = c.args in
    let size = length a.out.now in
    let text = take l.written l.out in record {
      out_after = ap (λ (t : Given). (took_says a.self (Ok t), l.out)) c.took-2.ensures
          ∙ as_filled l.sheet l.used l.written l.out a.out.now (omega arith) l.invariant.4
          (l.invariant.5 ∙ ap (fill_from size l.sheet l.used text) (drop_of_length-le a.part.now {i = l.used} (omega arith)) ∙ none_fills size text l.sheet l.used);
      used_in_bounds = (rw c.took-2.ensures (omega arith), rw c.took-2.ensures (omega arith));
    }
