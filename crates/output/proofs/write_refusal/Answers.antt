-- `output::write_refusal` meets its contract: the row is its first two fields and the rest.
-- Assumes nothing.
use Prim.Native.Nat.{ℕ}
use native.Mathlib.Omega.{arith}
use borrow.Author.Rules.{rules}
use mathlib.Core.List.{List}
use mathlib.Core.Path.{◌≡◌, sym, ap, ◌∙◌}
use lib.ListN.{length}
use Rattle.common.specs.Ascii.{joined_by_commas}
use Rattle.texts.proofs.Lines.{put, and, told, same}
use Rattle.output.specs.Rows.{written}
use Rattle.output.proofs.Texts.{refusal_text_lem}
use Rattle.output.proofs.Sizes.{refusal_at_most_37}
use Rattle.output.proofs.write_refusal.Goals as goal

pub returns : goal.returns
unfolding joined_by_commas
returns c =
    let a = c.args in
    let lent : length c.new-row.result.bytes.now ≡ 64 = search rules in
    let whole = same (sym (refusal_text_lem a.line a.refusal)) (and c.put_head.ensures (put c.put.ensures)) in
    let fits = refusal_at_most_37 a.line a.refusal (search rules) (search rules) in
    c.hand_over.ensures ∙ ap (λ (t : List ℕ). written t a.out.now) (c.text.ensures ∙ told whole (search rules) (omega arith))
