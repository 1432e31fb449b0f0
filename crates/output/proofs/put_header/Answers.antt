-- `output::put_header` meets its contract: its pieces, each after the one before, are the header.
-- Assumes nothing.
use Rattle.common.specs.Ascii.{joined_by_commas}
use Rattle.names.specs.Words.{order_names, lamp_names}
use Rattle.texts.proofs.Lines.{put, and}
use Rattle.output.specs.Rows.{header_text}
use Rattle.output.proofs.put_header.Goals as goal

pub returns : goal.returns
unfolding header_text joined_by_commas order_names lamp_names
returns c =
    and (and (and (and (put c.put.ensures) (put c.put_all.ensures)) (put c.put-2.ensures)) (put c.put_all-2.ensures)) (put c.put-3.ensures)
