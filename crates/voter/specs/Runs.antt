-- Request K5 over samples in a row: what its laws speak of, in its words. The count comes in only where a law starts (`Quiet`). Only
-- accepted samples are heard here.
-- Assumes nothing.
use Rattle.std.specs.Prelude.{ℕ, ◌≤◌, Bool, true, not, List, [], ◌∷◌, ◌++◌, ◌≡◌, T, eqb}
use Rattle.std.specs.Bool.{beq}
use Rattle.common.specs.Bits.{is_one}
use Rattle.voter.specs.Voting.{odd_of, majority_of, voted}
use Rattle.voter.specs.Numbers.{number_of}
use Rattle.voter.specs.Counts.{has_two}
use Rattle.voter.specs.declared.Channels.{Channels}
use Rattle.voter.specs.declared.Channels.TheVariants.{All, Without1, Without2, Without3, Nothing}
use Rattle.voter.specs.declared.Voter.{Voter}

-- ---- Readings

-- What channels 1, 2 and 3 say in one sample.
abbrev pub Reading : Type 0
Reading = Bool × Bool × Bool

-- By numbers, 0 or 1.
abbrev pub says : ℕ → ℕ → ℕ → Reading
says one two three = (is_one one, is_one two, is_one three)

-- The odd one of three; 0 where they agree.
abbrev pub odd_in : Reading → ℕ
odd_in r = odd_of r.0 r.1 r.2

-- Channel k, 1 to 3, is the odd one.
abbrev pub is_odd : ℕ → Reading → Bool
is_odd k r = eqb (odd_in r) k

-- What the majority of three says.
abbrev pub majority : Reading → Bool
majority r = majority_of r.0 r.1 r.2

-- All channels that are valid say the same.
abbrev pub agree : Channels → Reading → Bool
agree All r = eqb (odd_in r) 0
agree Without1 r = beq r.1 r.2
agree Without2 r = beq r.0 r.2
agree Without3 r = beq r.0 r.1
agree Nothing r = true

-- They differ.
abbrev pub differ : Channels → Reading → Bool
differ channels r = not (agree channels r)

-- ---- Votes in a row

-- A sensor after a vote ..
abbrev pub heard : Voter → Reading → Voter
heard v r = voted v r.0 r.1 r.2

-- .. and after one vote for each reading.
unfoldable pub heard_all : Voter → List Reading → Voter
heard_all v [] = v
heard_all v (r ∷ rs) = heard_all (heard v r) rs

-- All channels are valid, and the count is 0: so is a fresh sensor.
abbrev pub Quiet : Voter → Type 0
Quiet v = (v.channels ≡ All) × (v.count ≡ 0)

-- Channel k, 1 to 3, is struck, and the sensor is not invalid.
abbrev pub is_struck : ℕ → Voter → Bool
is_struck k v = eqb (number_of v) k

-- Three of some readings in a row, with those before them and behind them.
pub record ThreeOf (readings : List Reading) : Type 0 where
  pub earlier : List Reading
  pub first : Reading
  pub second : Reading
  pub third : Reading
  pub later : List Reading
  pub in_a_row : readings ≡ earlier ++ first ∷ second ∷ third ∷ later

-- Somewhere three in a row have channel k as the odd one, while all channels are valid.
pub record ThreeOdd (k : ℕ) (v : Voter) (readings : List Reading) : Type 0 where
  pub channel : 1 ≤ k
  pub three : ThreeOf readings
  pub odd : T (is_odd k three.first) × T (is_odd k three.second) × T (is_odd k three.third)
  pub all_valid : (heard_all v (three.earlier ++ three.first ∷ three.second ∷ [])).channels ≡ All

-- Somewhere, where two channels are valid, three in a row have them differ.
pub record ThreeDiffer (v : Voter) (readings : List Reading) : Type 0 where
  pub three : ThreeOf readings
  pub two_valid : T (has_two (heard_all v three.earlier))
  pub differing :
      (let two = (heard_all v three.earlier).channels in
      T (differ two three.first) × T (differ two three.second) × T (differ two three.third))
