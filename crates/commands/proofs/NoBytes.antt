-- What was read of a file stands in front of the buffer: all of it, or nothing, and no bytes are no image.
-- Assumes nothing.
use Prim.Native.Nat.{ℕ, ◌≤◌}
use native.Mathlib.Omega.{arith}
use mathlib.Core.Bool.{Bool, true}
use Rattle.std.specs.Prelude.{Option, None, Some, Result, Ok, Err}
use mathlib.Core.List.{List, []}
use mathlib.Core.Path.{◌≡◌, refl, sym, ap, ◌∙◌}
use lib.ListN.{length, take, length-take}
use borrow.Author.Tests.{eq-eqb, ne_eqb}
use lib.Dec.{eqb}
use Rattle.refusals.specs.declared.Refusal.{Refusal}
use Rattle.refusals.proofs.Laws.{no_zero}
use Rattle.controller.specs.declared.State.{State}
use Rattle.controller.specs.Answers.{Answer, answer_says}
use Rattle.image.specs.Xdr.{items_in}
use Rattle.image.specs.Items.{item_at}
use Rattle.image.specs.Faults.{is_blank}
use Rattle.controller.specs.Start.{fresh_of}
use Rattle.forms.specs.Forms.{in_new_form}
use Rattle.image.specs.Images.{fits, refusal_of, load_of}
use Rattle.commands.specs.declared.saving.Loaded as taken
use Rattle.commands.specs.Loading.{Loaded, loaded_says, loaded_of, LoadedFront}

pub nothing_loaded : loaded_says 0 None ≡ loaded_of []
unfolding in_new_form fits refusal_of load_of loaded_of
nothing_loaded = refl

pub of_nothing : (buffer : List ℕ) → LoadedFront None buffer
of_nothing buffer = record { read = 0; within = omega arith; loaded = nothing_loaded }

pub of_bytes : (answer : Option taken.Loaded) (n : ℕ) (buffer : List ℕ) → n ≤ length buffer
    → loaded_says (length (take n buffer)) answer ≡ loaded_of (take n buffer)
    → LoadedFront answer buffer
of_bytes answer n buffer within e =
    let long : length (take n buffer) ≡ n = simp length-take (omega arith) in
    record { read = n; within = within; loaded = ap (λ (k : ℕ). loaded_says k answer) (sym long) ∙ e }

-- Of an image that was taken, as many bytes as it says that were read.
module _ (t : taken.Loaded) (buffer : List ℕ) (front : LoadedFront (Some t) buffer) where
  as_many : t.read ≡ front.read
  unfolding loaded_of
  as_many = ap (λ (x : Loaded). x.read) front.loaded ∙ simp length-take (omega (arith, front.within))

  pub read_within : t.read ≤ length buffer
  read_within = omega (arith, as_many, front.within)

  pub what_was_read : loaded_says (length (take t.read buffer)) (Some t) ≡ loaded_of (take t.read buffer)
  what_was_read = front.loaded ∙ ap (λ (k : ℕ). loaded_of (take k buffer)) (sym as_many)

-- What is no controller is refused.
pub not_taken : (before : State) (r : Result State Refusal) → ((s : State) → r ≡ Ok s → ⊥) → (answer_says before r).refusal ≡ 0 → ⊥
not_taken before (Ok s) other e = other s refl
not_taken before (Err q) other e = no_zero q e

-- What loading answers of the bytes that were read: none where it refuses, and else the controller.
module _ (bytes : List ℕ) (answer : Answer) (loaded : answer ≡ load_of (fresh_of 0) bytes (item_at (items_in bytes) 0)) where
  refusal_is : answer.refusal ≡ refusal_of bytes
  unfolding load_of
  refusal_is = ap (λ (a : Answer). a.refusal) loaded

  pub none_loaded : (answer.refusal ≡ 0 → ⊥) → loaded_says (length bytes) None ≡ loaded_of bytes
  unfolding load_of loaded_of
  none_loaded other = rw (ne_eqb (refusal_of bytes) 0 (λ e. other (refusal_is ∙ e)))

  pub one_loaded : answer.refusal ≡ 0 → (blank : Bool) → blank ≡ is_blank bytes
      → loaded_says (length bytes) (Some (record { state = answer.state; blank = blank; read = length bytes })) ≡ loaded_of bytes
  unfolding loaded_of
  one_loaded e blank own =
      let taken : eqb (refusal_of bytes) 0 ≡ true = eq-eqb _ 0 (sym refusal_is ∙ e) in
      rw (loaded, taken, own)
