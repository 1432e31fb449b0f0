-- `cylinder::parts_of` meets its contract. The tests on what is scaled leave a whole part of 0 to 16384 and no NaN; by the bits the float is
-- the one for that whole part, or none. A literal of the code stands by its bits, so the answers unfold `of_bits`.
-- Assumes nothing.
use Rattle.std.proofs.Common.{sym, ◌∙◌, arith}
use mir.Facts.{Fits-below}
use lib.Ieee.{binary32, mul, of_bits}
use Rattle.cylinder.proofs.Exact.{scale, can_be_cut, no_nan, fraction_no_nan}
use Rattle.cylinder.proofs.Decoding.{whole_at_most, below_is_none, over_is_none, others_are_none, same_is_some}
use Rattle.cylinder.proofs.parts_of.Goals as goal

pub returns-then-scaled : goal.returns-then-scaled
unfolding of_bits
returns-then-scaled c = below_is_none c.args.x c.well_formed.0.1 c.if-scaled.true

pub truncating_f32_to_u64-parts-requires : goal.truncating_f32_to_u64-parts-requires
unfolding of_bits
truncating_f32_to_u64-parts-requires c =
    let cut = can_be_cut (mul binary32 c.args.x scale) c.if-scaled.false c.if-scaled-2.true in
    record { lower_bound = cut.0; upper_bound = cut.1 }

pub overflow_cast-parts : goal.overflow_cast-parts
unfolding of_bits
overflow_cast-parts c =
    Fits-below tt (whole_at_most c.args.x _ c.truncating_f32_to_u64-parts.ensures c.if-scaled.false c.if-scaled-2.true)

pub same_bits-requires : goal.same_bits-requires
unfolding of_bits
same_bits-requires c = let x = c.args.x in
    let most = whole_at_most x _ c.truncating_f32_to_u64-parts.ensures c.if-scaled.false c.if-scaled-2.true in
    record { t = no_nan x c.if-scaled-2.true; t_2 = rw c.fraction.ensures (fraction_no_nan _ (omega arith)) }

pub overflow_cast-result : goal.overflow_cast-result
unfolding of_bits
overflow_cast-result c =
    Fits-below tt (whole_at_most c.args.x _ c.truncating_f32_to_u64-parts.ensures c.if-scaled.false c.if-scaled-2.true)

pub returns-then-same_bits : goal.returns-then-same_bits
unfolding of_bits
returns-then-same_bits c =
    same_is_some c.args.x c.well_formed.0.1 _ _
    (whole_at_most c.args.x _ c.truncating_f32_to_u64-parts.ensures c.if-scaled.false c.if-scaled-2.true)
    c.fraction.ensures (sym c.same_bits.ensures ∙ c.if-same_bits.true)

pub returns-else-same_bits : goal.returns-else-same_bits
unfolding of_bits
returns-else-same_bits c =
    others_are_none c.args.x c.well_formed.0.1 _ _ c.truncating_f32_to_u64-parts.ensures
    c.fraction.ensures (sym c.same_bits.ensures ∙ c.if-same_bits.false)

pub returns-else-scaled-2 : goal.returns-else-scaled-2
unfolding of_bits
returns-else-scaled-2 c = over_is_none c.args.x c.well_formed.0.1 c.if-scaled-2.false
