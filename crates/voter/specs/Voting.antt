-- Document 01, "Voting" (the case's rule), and request K5: one vote of a sensor over its three channels.
-- Assumes nothing.
use Rattle.std.specs.Prelude.{ℕ, ◌+◌, Bool, true, false, cond, ◌≡◌, eqb, leb}
use Rattle.std.specs.Bool.{beq}
use Rattle.voter.specs.declared.Channels.{Channels}
use Rattle.voter.specs.declared.Channels.TheVariants.{All, Without1, Without2, Without3, Nothing}
use Rattle.voter.specs.declared.Voter.{Voter}
use Rattle.voter.specs.Numbers.{channels_at}

-- ---- A sensor

-- The channels that still count, the value held, the odd channel (1 to 3, or 0) and the count: so many samples in a row had that
-- channel as the odd one or, with two valid, had the two differ.
abbrev pub sensor : Channels → Bool → ℕ → ℕ → Voter
sensor channels held odd count = record { channels = channels; held = held; odd = odd; count = count }

-- The same with the count at 0: no count runs.
abbrev pub uncounted : Channels → Bool → Voter
uncounted channels held = sensor channels held 0 0

-- "Only at the third accepted sample in a row": this many in a row are too many.
abbrev pub third : ℕ
third = 3

-- ---- Three valid channels

-- The odd one of three; 0 where they agree.
unfoldable pub odd_of : Bool → Bool → Bool → ℕ
odd_of one two three =
    cond (beq one two)
    (cond (beq two three) 0 3)
    (cond (beq two three) 1 2)

-- The majority's value: that of two equal ones.
unfoldable pub majority_of : Bool → Bool → Bool → Bool
majority_of one two three = cond (beq one two) one three

-- So many samples in a row, with this one, have had this channel as the odd one. "Another odd channel starts again at 1."
abbrev pub odd_in_a_row : Voter → ℕ → ℕ
odd_in_a_row v odd = cond (eqb v.odd odd) (v.count + 1) 1

-- By the odd one and the majority's value. Agreement sets the count to 0. The same channel for the third time in a row is struck for
-- ever, and the count is 0. Until then all stay valid. In each case the value is the majority's, whatever was held.
unfoldable pub by_odd : Voter → ℕ → Bool → Voter
by_odd v odd value =
    cond (eqb odd 0) (uncounted All value)
    (cond (leb third (odd_in_a_row v odd)) (uncounted (channels_at odd) value)
    (sensor All value odd (odd_in_a_row v odd)))

unfoldable pub of_three : Voter → Bool → Bool → Bool → Voter
of_three v one two three = by_odd v (odd_of one two three) (majority_of one two three)

-- ---- Two valid channels

-- So many samples in a row, with this one, have had the two differ.
abbrev pub differ_in_a_row : Voter → ℕ
differ_in_a_row v = v.count + 1

-- If equal, that value, and the count is 0. If they differ the last value is kept, and at the third such sample in a row the sensor is
-- invalid for ever, with the count at 0. There is no odd one of two.
unfoldable pub of_two : Voter → Bool → Bool → Voter
of_two v one two =
    cond (beq one two) (uncounted v.channels one)
    (cond (leb third (differ_in_a_row v)) (uncounted Nothing v.held)
    (sensor v.channels v.held 0 (differ_in_a_row v)))

-- ---- A vote

-- One vote: by how many channels are valid. A struck channel is not looked at, and an invalid sensor looks at none and stays as it is.
unfoldable pub voted_by : Channels → Voter → Bool → Bool → Bool → Voter
voted_by All v one two three = of_three v one two three
voted_by Without1 v one two three = of_two v two three
voted_by Without2 v one two three = of_two v one three
voted_by Without3 v one two three = of_two v one two
voted_by Nothing v one two three = v

-- One vote of a sensor over its three channels.
unfoldable pub voted : Voter → Bool → Bool → Bool → Voter
voted v one two three = voted_by v.channels v one two three

-- A fresh start: all channels valid, a value held, and no count runs.
unfoldable pub fresh_with : Bool → Voter
fresh_with held = uncounted All held

-- The value of a sensor.
unfoldable pub value_of : Voter → Bool
value_of v = v.held

-- No channels are left to count.
abbrev pub none_left : Channels → Bool
none_left All = false
none_left Without1 = false
none_left Without2 = false
none_left Without3 = false
none_left Nothing = true

-- A sensor is invalid.
unfoldable pub is_invalid : Voter → Bool
is_invalid v = none_left v.channels

-- How many channels are valid.
unfoldable pub valid_channels : Channels → ℕ
valid_channels All = 3
valid_channels Without1 = 2
valid_channels Without2 = 2
valid_channels Without3 = 2
valid_channels Nothing = 0

-- Two readings of the three channels agree in each channel that counts.
unfoldable pub AgreeWhereCounted : Channels → Bool → Bool → Bool → Bool → Bool → Bool → Type 0
AgreeWhereCounted All a b c a' b' c' = (a ≡ a') × (b ≡ b') × (c ≡ c')
AgreeWhereCounted Without1 a b c a' b' c' = (b ≡ b') × (c ≡ c')
AgreeWhereCounted Without2 a b c a' b' c' = (a ≡ a') × (c ≡ c')
AgreeWhereCounted Without3 a b c a' b' c' = (a ≡ a') × (b ≡ b')
AgreeWhereCounted Nothing a b c a' b' c' = Unit {0}
