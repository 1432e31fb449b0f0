-- `texts::number_all` meets its contract. The loop's invariant: with the digits of what is left put in front of place i, the line is
-- what it is to be. A turn puts one digit there, and leaves those of the tenth.
-- Assumes nothing.
use Prim.Native.Nat.{ℕ, ◌+◌}
use native.Mathlib.Omega.{arith}
use mathlib.Core.List.{◌++◌}
use mathlib.Core.Path.{refl, ap, ◌∙◌}
use lib.ListN.{length, take, drop, length-set}
use Rattle.common.specs.Decimal.{decimal}
use Rattle.common.proofs.Decimals.{decimal_one, one_more}
use Rattle.texts.proofs.Placing.{put_placed, last_digit_put, only_digit_put}
use Rattle.texts.proofs.number_all.Goals as goal

pub loop-rest-init : goal.loop-rest-init
loop-rest-init c = (
  omega arith,
  omega arith,
  omega arith,
  refl,
  ap (λ (k : ℕ). take c.args.at c.args.line.now ++ decimal c.args.n ++ drop (c.args.at + k) c.args.line.now) c.requires.0,
)

pub overflow_sub-i : goal.overflow_sub-i
overflow_sub-i c = omega (arith, one_more c.loop-rest.rest (omega arith) (omega arith))

pub bounds-line-i : goal.bounds-line-i
bounds-line-i c = omega (arith, one_more c.loop-rest.rest (omega arith) (omega arith))

pub loop-rest-preserved : goal.loop-rest-preserved
loop-rest-preserved c =
    let shorter = one_more c.loop-rest.rest (omega arith) (omega arith) in (
      omega arith,
      omega (arith, shorter),
      simp length-set (omega arith),
      simp length-set (omega arith),
      last_digit_put
          c.loop-rest.line
          c.args.at
          c.loop-rest.i
          c.loop-rest.rest
          c.digit.result
          c.loop-rest.invariant.1
          c.loop-rest.invariant.2
          (omega arith)
          (omega arith)
          c.digit.ensures
          ∙ c.loop-rest.invariant.4,
    )

pub bounds-line-at : goal.bounds-line-at
bounds-line-at c = omega (arith, ap length (decimal_one c.loop-rest.rest (omega arith)))

pub shape_of-line : goal.shape_of-line
shape_of-line c = simp length-set c.loop-rest.invariant.3

pub returns : goal.returns
returns c =
    put_placed c.args.line.now c.args.at (decimal c.args.n) _ _ (omega arith) (omega arith)
    (simp length-set c.loop-rest.invariant.3)
    (only_digit_put
    c.loop-rest.line
    c.args.at
    c.loop-rest.i
    c.loop-rest.rest
    c.digit-2.result
    c.loop-rest.invariant.1
    c.loop-rest.invariant.2
    (omega arith)
    c.digit-2.ensures
    ∙ c.loop-rest.invariant.4)
