-- Loading by its three cases: an image that is taken, one that breaks a rule, and one that does not fit.
-- Assumes nothing.
use Prim.Native.Nat.{ℕ}
use mathlib.Core.Bool.{true, false}
use mathlib.Core.List.{List}
use mathlib.Core.Path.{◌≡◌, refl}
use Rattle.controller.specs.declared.State.{State}
use Rattle.image.specs.Items.{state_in}
use Rattle.image.specs.Rules.{rules, rules_hold}
use Rattle.image.specs.Images.{fits, loaded_at, refusal_of, load_of}

-- No rule speaks of the stamp.
pub rules_at_any_stamp : (image : List ℕ) (stamp other : ℕ) → rules_hold (loaded_at stamp image) ≡ rules_hold (loaded_at other image)
unfolding rules rules_hold state_in loaded_at
rules_at_any_stamp image stamp other = refl

module _ (before : State) (image : List ℕ) (stamp : ℕ) where
  pub load_taken : fits image ≡ true → rules_hold (loaded_at stamp image) ≡ true
      → load_of before image stamp ≡ record { refusal = 0; state = loaded_at stamp image }
  unfolding refusal_of load_of
  load_taken f h = rw (f, rules_at_any_stamp image 0 stamp, h)

  pub load_broken : fits image ≡ true → rules_hold (loaded_at stamp image) ≡ false
      → load_of before image stamp ≡ record { refusal = 11; state = before }
  unfolding refusal_of load_of
  load_broken f h = rw (f, rules_at_any_stamp image 0 stamp, h)

  pub load_unfit : fits image ≡ false → load_of before image stamp ≡ record { refusal = 10; state = before }
  unfolding refusal_of load_of
  load_unfit f = rw f
