-- `output::write_row` meets its contract: the row is its first two fields and the rest.
-- Assumes nothing.
use Prim.Native.Nat.{ℕ}
use native.Mathlib.Omega.{arith}
use borrow.Author.Rules.{rules}
use mathlib.Core.List.{List}
use mathlib.Core.Path.{◌≡◌, sym, ap, ◌∙◌}
use lib.ListN.{length}
use Rattle.output.specs.Rows.{written}
use Rattle.texts.proofs.Lines.{and, told, same}
use Rattle.output.proofs.Texts.{row_text_lem}
use Rattle.output.proofs.Sizes.{row_at_most_61}
use Rattle.output.proofs.write_row.Goals as goal

pub returns : goal.returns
returns c =
    let a = c.args in
    let lent : length c.new-line.result.bytes.now ≡ 64 = search rules in
    let whole = same (sym (row_text_lem a.label a.code a.shown)) (and c.put_head.ensures c.put_shown.ensures) in
    let fits = row_at_most_61 a.label a.code a.shown (search rules) (search rules) in
    c.hand_over.ensures ∙ ap (λ (t : List ℕ). written t a.out.now) (c.text.ensures ∙ told whole (search rules) (omega arith))
