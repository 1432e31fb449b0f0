-- `dump::opening` meets its contract: the whole array is the text that is put.
-- Assumes nothing.
use native.Mathlib.Omega.{arith}
use mathlib.Core.Path.{◌≡◌, sym, ◌∙◌}
use borrow.Author.Rules.{rules}
use lib.ListN.{length}
use lib.Seq.{take_all}
use Rattle.texts.proofs.Lines.{told}
use Rattle.dump.specs.Dumps.{opening_text}
use Rattle.dump.proofs.Lines.{opening_length_lem}
use Rattle.dump.proofs.opening.Goals as goal

pub returns : goal.returns
returns c =
    let lent : length c.new-line.result.bytes.now ≡ 995 = search rules in
    let front : c.new-line.result.at ≡ 0 = search rules in
    let all = c.put_opening.ensures.put (omega (arith, opening_length_lem)) in
    let line = c.put_opening.new.line in
    let whole : line.bytes.now ≡ opening_text =
    sym (take_all line.at line.bytes.now (omega (arith, opening_length_lem, all.place, all.size))) ∙ told c.put_opening.ensures front (omega (arith, opening_length_lem)) in
    search rules
