-- Request K4: what a step asks of the sequence's table, what it makes of the answer, and which of its entries can be asked. Request K7: on
-- ground or in the air.
-- Assumes nothing.
use Rattle.std.specs.Prelude.{ℕ, List, ◌≡◌, T}
use Rattle.voter.specs.declared.Voter.{Voter}
use Rattle.table.specs.declared.Asked.{Asked}
use Rattle.table.specs.Table.{number_of, entry_at, can_be_asked}
use Rattle.controller.specs.declared.State.{State}
use Rattle.controller.specs.Votes.{all_voted, sight_of, seen_of, aimed, on_ground}
use Rattle.controller.specs.Steps.{step_of}

-- What an accepted sample asks: ground, handle and facts as it votes them, doors and gears as they stood before it.
abbrev pub asked_by : State → List ℕ → Asked
asked_by s bytes =
    let votes : List Voter = all_voted bytes s.voters in
    record { grounded = on_ground votes; aim = aimed votes; place = s.core.place; seen = seen_of (sight_of votes) }

-- After an accepted sample without an anomaly, doors and gears are what the table tells at the number that was asked.
abbrev pub TheTableRuns : State → Type 0
TheTableRuns s =
    (stamp : ℕ) (bytes : List ℕ) →
    (step_of s stamp bytes).refusal ≡ 0 →
    (step_of s stamp bytes).state.core.cause ≡ 0 →
    (step_of s stamp bytes).state.core.place ≡ entry_at (number_of (asked_by s bytes))

-- Whatever the sample, it asks an entry that can be asked.
abbrev pub AsksWhatCanBeAsked : State → Type 0
AsksWhatCanBeAsked s = (bytes : List ℕ) → T (can_be_asked (number_of (asked_by s bytes)))

-- So many entries can be.
abbrev pub can_be_asked_in_all : ℕ
can_be_asked_in_all = 640

-- So many on ground are other than in the air.
abbrev pub changed_in_all : ℕ
changed_in_all = 64
