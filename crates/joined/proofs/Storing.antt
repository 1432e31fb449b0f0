-- Values that are stored side by side in a list, one turn of a loop: they come behind what stands before them, and what is behind them stays.
-- Assumes nothing.
use Rattle.std.proofs.Common.{◌≡◌, ℕ, ◌+◌, ◌≤◌, List, ◌++◌, length, take, drop, append_assoc, arith, length-append, length-take-le, take_at, drop_at}
use lib.Seq.{sets, sets-eq}

module _ {A : Type 0} (vs l : List A) (k : ℕ) (room : k + length vs ≤ length l) where
  long : length (take k l ++ vs) ≡ k + length vs
  long = simp length-append (omega (arith, length-take-le k l (omega arith)))

  split : sets l k vs ≡ (take k l ++ vs) ++ drop (k + length vs) l
  split = rw (sets-eq vs l k room, append_assoc (take k l) vs (drop (k + length vs) l))

  pub stored_next : take (k + length vs) (sets l k vs) ≡ take k l ++ vs
  stored_next = rw split (take_at (take k l ++ vs) (drop (k + length vs) l) (k + length vs) long)

  pub stored_rest : drop (k + length vs) (sets l k vs) ≡ drop (k + length vs) l
  stored_rest = rw split (drop_at (take k l ++ vs) (drop (k + length vs) l) (k + length vs) long)
