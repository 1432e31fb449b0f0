-- Laws of one cylinder, for the layers above: they cite these names and open neither the rule nor the floats.
-- Assumes nothing.
use Rattle.std.proofs.Common.{◌≡◌, ℕ, ◌+◌, ◌-◌, ◌*◌, ◌≤◌, min, ◌⊎◌, ◌↔◌, sym, refl, ◌∙◌, subst, inl, inr, zero-le, arith}
use Rattle.std.specs.Prelude.{Option, None, Some}
use Rattle.common.specs.Answers.{Answer, gives, refuses}
use Rattle.cylinder.specs.Fractions.{stroke, fraction}
use Rattle.cylinder.specs.Moves.{fastest, position_parts, rate_parts, shown_parts, cylinder_at, moved_out, moved_in, stuck_at, moved_by, moved_from, moved, BadCylinder, BadDrive, InParts}
use Rattle.cylinder.specs.declared.Drive.{Drive}
use Rattle.cylinder.specs.declared.Drive.TheVariants.{Out, In, Hold, Stuck}
use Rattle.cylinder.specs.declared.Cylinder.{Cylinder}
use Rattle.cylinder.proofs.Exact.{fraction_exact}
use Rattle.cylinder.proofs.Taken.{position_of_fraction, rate_of_fraction, shown_of_fraction, taken_at_most, none_is_not_some}

-- ---- A move by its parts

module _ (k shown : ℕ) (on_stroke : k ≤ stroke) (no_faster : shown ≤ fastest) (elapsed : ℕ) where
  told : (drive : Drive) → moved (cylinder_at k shown) drive elapsed ≡ moved_by drive k elapsed
  unfolding moved cylinder_at
  told drive = simp (position_of_fraction k on_stroke, shown_of_fraction shown no_faster)

  -- Out by rate times elapsed, and it stops at 1; ..
  pub moved_out_by_parts : (n : ℕ) → 1 ≤ n → n ≤ fastest
      → moved (cylinder_at k shown) (Out (fraction n)) elapsed ≡ gives (cylinder_at (min stroke (k + n * elapsed)) n)
  moved_out_by_parts n least most = told (Out (fraction n)) ∙ simp (rate_of_fraction n least most)

  -- .. in, and it stops at 0; ..
  pub moved_in_by_parts : (n : ℕ) → 1 ≤ n → n ≤ fastest
      → moved (cylinder_at k shown) (In (fraction n)) elapsed ≡ gives (cylinder_at (k - n * elapsed) n)
  moved_in_by_parts n least most = told (In (fraction n)) ∙ simp (rate_of_fraction n least most)

  -- .. it holds; ..
  pub held_by_parts : moved (cylinder_at k shown) Hold elapsed ≡ gives (cylinder_at k 0)
  held_by_parts = told Hold

  -- .. or it is stuck at a position, where it then stands.
  pub stuck_by_parts : (p : ℕ) → p ≤ stroke → moved (cylinder_at k shown) (Stuck (fraction p)) elapsed ≡ gives (cylinder_at p 0)
  stuck_by_parts p most = told (Stuck (fraction p)) ∙ simp (position_of_fraction p most)

-- ---- Refused, and handed out

-- A cylinder with its own parts is exactly those.
in_parts : (k n : ℕ) → k ≤ stroke → n ≤ fastest → InParts (cylinder_at k n)
unfolding cylinder_at
in_parts k n on_stroke no_faster =
    record {
      stands_at = k;
      shows = n;
      on_stroke = on_stroke;
      no_faster = no_faster;
      exact_position = fraction_exact k (omega arith);
      exact_rate = fraction_exact n (omega arith);
      itself = refl;
    }

never : {n : ℕ} {o : Option ℕ} → o ≡ Some n → o ≡ None → ⊥
never p q = none_is_not_some (sym q ∙ p)

refusal_is_none : {A B : Type 0} {x : A} {k : ℕ} → gives x ≡ refuses k → B
refusal_is_none e = absurd (cc)

-- What a move comes to: 13 with its reason, or a cylinder in parts.
data Comes (bad : Type 0) : Answer Cylinder → Type 0 where
  refused : bad → Comes bad (refuses 13)
  given : (c : Cylinder) → (bad → ⊥) → InParts c → Comes bad (gives c)

exactly : {bad : Type 0} {a : Answer Cylinder} → Comes bad a → (a ≡ refuses 13) ↔ bad
exactly (refused b) = (λ e. b, λ b. refl)
exactly (given c good parts) = (λ e. refusal_is_none e, λ b. absurd (good b))

else_given : {bad : Type 0} {a : Answer Cylinder} → Comes bad a → (bad → ⊥) → (c : Cylinder) × (a ≡ gives c)
else_given (refused b) good = absurd (good b)
else_given (given c good parts) _ = (c, refl)

given_in_parts : {bad : Type 0} {a : Answer Cylinder} → Comes bad a → (c : Cylinder) → a ≡ gives c → InParts c
given_in_parts (refused b) c e = refusal_is_none (sym e)
given_in_parts (given c' good parts) c e = let same : c' ≡ c = cc in subst InParts same parts

module _ (c : Cylinder) (elapsed : ℕ) where
  no_reason : {k n : ℕ} → position_parts c.position ≡ Some k → shown_parts c.rate ≡ Some n → BadCylinder c → ⊥
  no_reason p q (inl e) = never p e
  no_reason p q (inr e) = never q e

  -- A rate or a position that it is told, taken or not.
  by_number : (good : BadCylinder c → ⊥) (o told : Option ℕ) (answer : Option ℕ → Answer Cylinder) → told ≡ o → answer None ≡ refuses 13
      → ((n : ℕ) → told ≡ Some n → (c' : Cylinder) × (answer (Some n) ≡ gives c') × InParts c')
      → Comes (BadCylinder c ⊎ (told ≡ None)) (answer o)
  by_number good None told answer e refuses_none gives_some = rw refuses_none (refused (inr e))
  by_number good (Some n) told answer e refuses_none gives_some =
      let g = gives_some n e in
      rw g.1 (given g.0 (λ bad. elim bad [ inl b ↦ good b | inr b ↦ never e b ]) g.2)

  by_drive : (drive : Drive) (k : ℕ) → (BadCylinder c → ⊥) → k ≤ stroke
      → Comes (BadCylinder c ⊎ BadDrive drive) (moved_by drive k elapsed)
  by_drive (Out rate) k good h =
      by_number good (rate_parts rate) (rate_parts rate) (moved_out k elapsed) refl refl
      (λ n e. (_, refl, in_parts (min stroke (k + n * elapsed)) n (omega arith) (taken_at_most 1 fastest n rate e)))
  by_drive (In rate) k good h =
      by_number good (rate_parts rate) (rate_parts rate) (moved_in k elapsed) refl refl
      (λ n e. (_, refl, in_parts (k - n * elapsed) n (omega arith) (taken_at_most 1 fastest n rate e)))
  by_drive Hold k good h = given (cylinder_at k 0) (λ bad. elim bad [ inl b ↦ good b | inr b ↦ b ]) (in_parts k 0 h zero-le)
  by_drive (Stuck position) k good h =
      by_number good (position_parts position) (position_parts position) stuck_at refl refl
      (λ p e. (_, refl, in_parts p 0 (taken_at_most 0 stroke p position e) zero-le))

  from_parts : (drive : Drive) (o s : Option ℕ) → position_parts c.position ≡ o → shown_parts c.rate ≡ s
      → Comes (BadCylinder c ⊎ BadDrive drive) (moved_from o s drive elapsed)
  from_parts drive None s p q = refused (inl (inl p))
  from_parts drive (Some k) None p q = refused (inl (inr q))
  from_parts drive (Some k) (Some n) p q = by_drive drive k (no_reason p q) (taken_at_most 0 stroke k c.position p)

  module _ (drive : Drive) where
    comes : Comes (BadCylinder c ⊎ BadDrive drive) (moved c drive elapsed)
    unfolding moved
    comes = from_parts drive (position_parts c.position) (shown_parts c.rate) refl refl

    -- "13 for a rate or position that is none of those": exactly if the cylinder's position or rate is none, or the one that it is told; ..
    pub thirteen_exactly : (moved c drive elapsed ≡ refuses 13) ↔ (BadCylinder c ⊎ BadDrive drive)
    thirteen_exactly = exactly comes

    -- .. else a cylinder is handed out, ..
    pub else_moved : (BadCylinder c ⊎ BadDrive drive → ⊥) → (c' : Cylinder) × (moved c drive elapsed ≡ gives c')
    else_moved good = else_given comes good

    -- .. whose floats equal their fractions exactly.
    pub handed_out : (c' : Cylinder) → moved c drive elapsed ≡ gives c' → InParts c'
    handed_out c' e = given_in_parts comes c' e
