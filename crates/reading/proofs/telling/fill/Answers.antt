-- `reading::telling::fill` meets its contract: each turn leads on to the answer of the whole part.
-- Assumes nothing.
use Rattle.std.proofs.Common.{inl, inr, refl, sym, ◌∙◌, arith, length-append, length-take, length-drop}
use Rattle.std.specs.Prelude.{Ok}
use Rattle.refusals.proofs.Laws.{no_zero}
use Rattle.reading.specs.Called.{called_says}
use Rattle.reading.proofs.Fills.{refused_out, refused_line, loop_begins, loop_ends, led_on}
use Rattle.reading.proofs.telling.fill.Goals as goal
use Rattle.reading.proofs.telling.fill.Goals.{In_ok-row}

pub returns-then-out-ROOM-clause-out_after : goal.returns-then-out-ROOM-clause-out_after
returns-then-out-ROOM-clause-out_after g c =
    let a = c.args in
    let t = g.T.Tell in
    elim c.then-out-ROOM.either [
      | inl short ↦ rw (refused_out t.told g.met.T.Tell.quiet t.ROOM a.part.now a.carried a.run a.line.now a.out.now (rw c.ROOM.ensures at short))
      | inr other ↦ rw (refused_line t.told g.met.T.Tell.quiet t.ROOM a.part.now a.carried a.run a.line.now a.out.now other.1)
    ]

pub loop-line-init : goal.loop-line-init
loop-line-init g c =
    let a = c.args in
    record {
      used = omega arith;
      written = omega arith;
      line_kept = refl;
      out_kept = refl;
      reaches = loop_begins g.T.Tell.told g.met.T.Tell.quiet g.T.Tell.ROOM a.part.now a.carried a.run a.line.now a.out.now c.if-line-ne-LINE.false (rw c.ROOM.ensures at c.if-out-ROOM.false);
    }

pub returns-in_err-row-clause-out_after : goal.returns-in_err-row-clause-out_after
returns-in_err-row-clause-out_after g c =
    let l = c.loop-line in
    let turn = led_on g.T.Tell.told g.met.T.Tell.quiet g.T.Tell.ROOM c.args.part.now (called_says l.took.carried l.took.run (Ok l.took), l.line, l.out) _ _ l.invariant.reaches
    ((rw c.ROOM-in-loop-line.ensures at (sym c.goes_on.ensures)) ∙ c.loop-line-test.true) c.in_err-row.ensures.out_after in
    absurd (no_zero _ turn.taken)

pub loop-line-smaller : goal.loop-line-smaller
loop-line-smaller g c =
    let l = c.loop-line in
    let lies = simp (length-take, length-drop) at c.in_ok-row.ensures.used_in_bounds in
    let turn = led_on g.T.Tell.told g.met.T.Tell.quiet g.T.Tell.ROOM c.args.part.now (called_says l.took.carried l.took.run (Ok l.took), l.line, l.out) _ _ l.invariant.reaches
    ((rw c.ROOM-in-loop-line.ensures at (sym c.goes_on.ensures)) ∙ c.loop-line-test.true) c.in_ok-row.ensures.out_after in
    omega (arith, lies.0, turn.uses)

pub loop-line-preserved : goal.loop-line-preserved
loop-line-preserved g c =
    let l = c.loop-line in
    let lies = simp (length-take, length-drop) at c.in_ok-row.ensures.used_in_bounds in
    let long = simp (length-take, length-drop) at c.take.auto.out in
    let turn = led_on g.T.Tell.told g.met.T.Tell.quiet g.T.Tell.ROOM c.args.part.now (called_says l.took.carried l.took.run (Ok l.took), l.line, l.out) _ _ l.invariant.reaches
    ((rw c.ROOM-in-loop-line.ensures at (sym c.goes_on.ensures)) ∙ c.loop-line-test.true) c.in_ok-row.ensures.out_after in
    record {
      used = omega (arith, lies.0);
      written = simp (length-append, length-take, length-drop) (omega (arith, lies.1, long));
      line_kept = c.take.auto.line ∙ l.invariant.line_kept;
      out_kept = simp (length-append, length-take, length-drop) (omega (arith, long));
      reaches = turn.reaches;
    }

pub returns-clause-out_after : goal.returns-clause-out_after
returns-clause-out_after g c =
    let l = c.loop-line in
    loop_ends g.T.Tell.told g.met.T.Tell.quiet g.T.Tell.ROOM c.args.part.now _ _ l.invariant.reaches ((rw c.ROOM-in-loop-line.ensures at (sym c.goes_on.ensures)) ∙ c.loop-line-test.false)
