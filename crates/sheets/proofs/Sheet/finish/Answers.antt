-- `sheets::Sheet::finish` meets its contract: a moment that is not complete, and one that is.
-- Assumes nothing.
use Rattle.std.proofs.Common.{replicate, refl, le-ltb}
use Rattle.dump.specs.Wires.{wires}
use Rattle.texts.proofs.Placing.{front_next, front_line}
use Rattle.sheets.specs.Sheets.{row_room}
use Rattle.sheets.specs.Runs.{finish_of}
use Rattle.sheets.proofs.Filling.{last_tested}
use Rattle.sheets.proofs.Sheet.finish.Goals as goal

pub returns-then-is_err-clause-out_after : goal.returns-then-is_err-clause-out_after
unfolding finish_of
returns-then-is_err-clause-out_after c =
    let last = last_tested c.args.self.reader c.finish.result (replicate wires 0) _ refl c.finish.ensures in
    simp (
      c.took-then-is_err.ensures,
      c.over.ensures,
      c.if-self.false,
      last,
      ← c.is_err.ensures.value,
      c.if-is_err.true,
      le-ltb _ row_room c.if-out-lt-ROOM.false,
    )

pub returns-clause-out_after : goal.returns-clause-out_after
unfolding finish_of
returns-clause-out_after c =
    let put = c.row_at-written.ensures.1 in
    let last = last_tested c.args.self.reader c.finish.result (replicate wires 0) _ refl c.finish.ensures in
    simp (
      c.took-2.ensures,
      c.with_row.ensures,
      c.if-self.false,
      last,
      ← c.is_err.ensures.value,
      c.if-is_err.false,
      le-ltb _ row_room c.if-out-lt-ROOM.false,
      front_next put,
      front_line put,
    )
