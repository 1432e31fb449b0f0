-- What the loop needs of where it stands: it goes on only in front of the end of the input, and it stops only at the end of the input or where a
-- refusal has ended the reading. And a part that has bytes is not the end of the input.
-- Assumes nothing.
use Rattle.std.proofs.Common.{◌≡◌, ℕ, ◌<◌, Bool, true, false, ◌||◌, T, refl, arith, ne_eqb}
use Rattle.loops.specs.declared.Progress.{Progress}
use Rattle.loops.specs.Progresses.{read_part, goes_on}

module _ (left to put : ℕ) where
  -- By whether the end was met.
  abbrev at : Bool → Progress
  at end = record { left = left; to = to; end = end; put = put }

  going : (end refused : Bool) → goes_on (at end) refused ≡ true → end ≡ false
  going true refused h = absurd (cc)
  going false refused h = refl

  stopped : (end refused : Bool) → goes_on (at end) refused ≡ false → T (end || refused)
  stopped true refused h = tt
  stopped false true h = tt
  stopped false false h = absurd (cc)

pub goes_on_before_the_end : (p : Progress) (refused : Bool) → goes_on p refused ≡ true → p.end ≡ false
goes_on_before_the_end p refused h = going p.left p.to p.put p.end refused h

pub stops_at_the_end_or_a_refusal : (p : Progress) (refused : Bool) → goes_on p refused ≡ false → T (p.end || refused)
stops_at_the_end_or_a_refusal p refused h = stopped p.left p.to p.put p.end refused h

pub a_part_is_not_the_end : (p : Progress) (n : ℕ) → 0 < n → (read_part p n).end ≡ false
a_part_is_not_the_end p n h = ne_eqb n 0 (λ e. omega (arith, e))
