-- A sensor over any number of readings.
-- Assumes nothing.
use Prim.Native.Nat.{ℕ}
use native.Mathlib.Omega.{arith}
use mathlib.Core.Bool.{false}
use mathlib.Core.List.{List, [], ◌∷◌, ◌++◌, append_assoc, append-nil}
use mathlib.Core.Path.{◌≡◌, ◌∙◌, refl, sym, ap, subst, subst⁻¹}
use lib.Dec.{T}
use lib.ListN.{length, length-append, get_or}
use Rattle.voter.specs.Voting.{value_of, none_left, is_invalid}
use Rattle.voter.specs.Runs.{Reading, majority, heard, heard_all, ThreeOf}
use Rattle.voter.specs.declared.Channels.{Channels}
use Rattle.voter.specs.declared.Channels.TheVariants.{All, Nothing}
use Rattle.voter.specs.declared.Voter.{Voter}
use Rattle.voter.proofs.Laws.{same_or_none, none_is_not_all, value_is_of_the_majority}

-- ---- Three in a row

-- Those that are heard last.
abbrev pub at_the_end : (rs : List Reading) (a b c : Reading) → ThreeOf ((rs ++ a ∷ b ∷ []) ++ c ∷ [])
at_the_end rs a b c =
    record { earlier = rs; first = a; second = b; third = c; later = []; in_a_row = append_assoc rs (a ∷ b ∷ []) (c ∷ []) }

-- The same three where one more reading is behind them.
abbrev pub three_later : (rs : List Reading) (r : Reading) → ThreeOf rs → ThreeOf (rs ++ r ∷ [])
three_later rs r h =
    record {
      earlier = h.earlier;
      first = h.first;
      second = h.second;
      third = h.third;
      later = h.later ++ r ∷ [];
      in_a_row =
          ap (λ (l : List Reading). l ++ r ∷ []) h.in_a_row ∙
          append_assoc h.earlier (h.first ∷ h.second ∷ h.third ∷ h.later) (r ∷ []);
    }

-- Of two readings there are none, ..
pub too_few : (a b : Reading) → ThreeOf (a ∷ b ∷ []) → ⊥
too_few a b h = omega (arith, ap length h.in_a_row, length-append h.earlier (h.first ∷ h.second ∷ h.third ∷ h.later))

-- .. and of three these alone.
pub just_these : (a b c : Reading) (h : ThreeOf (a ∷ b ∷ c ∷ [])) → (h.earlier ≡ []) × (h.first ≡ a) × (h.second ≡ b) × (h.third ≡ c)
just_these a b c h = by h.earlier h.in_a_row
  where
    by :
        (earlier : List Reading) →
        a ∷ b ∷ c ∷ [] ≡ earlier ++ h.first ∷ h.second ∷ h.third ∷ h.later →
        (earlier ≡ []) × (h.first ≡ a) × (h.second ≡ b) × (h.third ≡ c)
    by [] e =
        let at : (n : ℕ) → get_or (h.first ∷ h.second ∷ h.third ∷ h.later) n a ≡ get_or (a ∷ b ∷ c ∷ []) n a = λ n. ap (λ (l : List Reading). get_or l n a) (sym e) in
        (refl, at 0, at 1, at 2)
    by (r ∷ rs) e = absurd (omega (arith, ap length e, length-append rs (h.first ∷ h.second ∷ h.third ∷ h.later)))

-- ---- One reading after the other

pub heard_in_turn : (v : Voter) (rs qs : List Reading) → heard_all v (rs ++ qs) ≡ heard_all (heard_all v rs) qs
unfolding heard_all
heard_in_turn v [] qs = refl
heard_in_turn v (r ∷ rs) qs = heard_in_turn (heard v r) rs qs

pub heard_last : (v : Voter) (rs : List Reading) (r : Reading) → heard_all v (rs ++ r ∷ []) ≡ heard (heard_all v rs) r
unfolding heard_all
heard_last v rs r = heard_in_turn v rs (r ∷ [])

-- What holds of a sensor that has heard nothing, and at each further reading, holds of it after any.
pub over_readings :
    (v : Voter) (P : List Reading → Voter → Type 0) →
    P [] v →
    ((rs : List Reading) (w : Voter) → w ≡ heard_all v rs → P rs w → (r : Reading) → P (rs ++ r ∷ []) (heard w r)) →
    (rs : List Reading) →
    P rs (heard_all v rs)
unfolding heard_all
over_readings v P start on rs = from [] rs start
  where
    from : (past rs : List Reading) → P past (heard_all v past) → P (past ++ rs) (heard_all v (past ++ rs))
    from past [] h = subst⁻¹ (λ (l : List Reading). P l (heard_all v l)) (append-nil past) h
    from past (r ∷ rs) h =
        subst (λ (l : List Reading). P l (heard_all v l)) (append_assoc past (r ∷ []) rs)
        (from (past ++ r ∷ []) rs (subst⁻¹ (P (past ++ r ∷ [])) (heard_last v past r) (on past (heard_all v past) refl h r)))

-- ---- The value

-- Up to the strike and with it the value is the majority's at every sample.
pub majority_up_to_the_strike :
    (v : Voter) (rs : List Reading) (r : Reading) →
    (heard_all v rs).channels ≡ All →
    value_of (heard_all v (rs ++ r ∷ [])) ≡ majority r
majority_up_to_the_strike v rs r all =
    ap value_of (heard_last v rs r) ∙ value_is_of_the_majority (heard_all v rs) all r.0 r.1 r.2

-- ---- Channels that are left

-- Once none is left it stays so.
pub still_gone : (w : Voter) → w.channels ≡ Nothing → (r : Reading) → (heard w r).channels ≡ Nothing
still_gone w none r =
    same_or_none (λ (ch : Channels). ch ≡ Nothing) w (λ all. none_is_not_all (sym none ∙ all)) r.0 r.1 r.2 none refl

pub stays_gone : (w : Voter) → w.channels ≡ Nothing → (rs : List Reading) → (heard_all w rs).channels ≡ Nothing
unfolding heard_all
stays_gone w none [] = none
stays_gone w none (r ∷ rs) = stays_gone (heard w r) (still_gone w none r) rs

-- A struck channel stays struck while the sensor is not invalid.
pub struck_stays :
    (ch : Channels) →
    (ch ≡ All → ⊥) →
    (w : Voter) →
    w.channels ≡ ch →
    (rs : List Reading) →
    is_invalid (heard_all w rs) ≡ false →
    (heard_all w rs).channels ≡ ch
unfolding heard_all is_invalid
struck_stays ch some w is [] valid = is
struck_stays ch some w is (r ∷ rs) valid =
    same_or_none (λ (c : Channels). (heard w r).channels ≡ c → (heard_all (heard w r) rs).channels ≡ ch) w (λ all. some (sym is ∙ all)) r.0 r.1 r.2
    (λ same. struck_stays ch some (heard w r) (same ∙ is) rs valid)
    (λ none. absurd (subst T (sym (ap none_left (stays_gone (heard w r) none rs)) ∙ valid) tt))
    refl
