-- `handing::save_last`: where row 0 has been read, an image is written, all of it.
-- Assumes nothing.
use Rattle.std.proofs.Common.{◌≡◌, true, ◌∙◌, sym, ap, rules}
use Rattle.reading.specs.Rows.{has_started}
use Rattle.handing.specs.Handing.{saved_by}
use Rattle.handing.proofs.Saving.{with_row_0}
use Rattle.handing.proofs.save_last.Goals as goal

pub returns : goal.returns
returns c =
    let run = c.args.run in
    let read : has_started run.reading.phase ≡ true = search rules in
    ap saved_by (rw c.state.ensures at c.in_ok-save.ensures) ∙ sym (with_row_0 run c.args.out.now read)
