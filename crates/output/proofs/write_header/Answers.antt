-- `output::write_header` meets its contract: the header fits.
-- Assumes nothing.
use Prim.Native.Nat.{ℕ}
use native.Mathlib.Omega.{arith}
use borrow.Author.Rules.{rules}
use mathlib.Core.List.{List}
use mathlib.Core.Path.{◌≡◌, ap, ◌∙◌}
use lib.ListN.{length}
use Rattle.texts.proofs.Lines.{told}
use Rattle.output.specs.Rows.{written}
use Rattle.output.proofs.Sizes.{header_89}
use Rattle.output.proofs.write_header.Goals as goal

pub returns : goal.returns
returns c =
    let lent : length c.new-line.result.bytes.now ≡ 128 = search rules in
    c.hand_over.ensures ∙ ap (λ (t : List ℕ). written t c.args.out.now) (c.text.ensures ∙ told c.put_header.ensures (search rules) (omega (arith, header_89)))
