-- Request K4: the table is what runs, and no more than 640 of its 1,024 entries can be asked in a reached state: the rest have gears
-- moving with doors not OPEN. Request K7: the ground changes 64 of them.
-- Assumes nothing.
use Prim.Native.Nat.{ℕ}
use mathlib.Core.Bool.{cond, not}
use mathlib.Core.List.{List}
use mathlib.Core.Path.{◌≡◌, refl, sym, subst, ◌∙◌}
use lib.Dec.{eqb}
use Rattle.sequence.specs.declared.Place.{Place}
use Rattle.sequence.specs.Moves.{at_aim, next_gears, doors_to_gears, doors_home, move_of, aim_in_force}
use Rattle.sequence.specs.Numbers.{doors_at, gears_at}
use Rattle.table.specs.Table.{number_of, entries, facts_at, asked_at, next_of, place_number, ruled_at, entry_at, changed_by_ground, can_be_asked, how_many}
use Rattle.sequence.specs.Places.{moving_have_open}
use Rattle.table.proofs.Entries.{asked_at_number, table_tells}
use Rattle.controller.specs.declared.State.{State}
use Rattle.controller.specs.Stages.{anomaly, accepted}
use Rattle.laws.specs.Laws.{Always}
use Rattle.laws.specs.Wall.{asked_by, TheTableRuns, AsksWhatCanBeAsked, can_be_asked_in_all, changed_in_all}
use Rattle.laws.proofs.Stages.{stages, core_stages}
use Rattle.laws.proofs.Lifted.{taken_is_accepted}
use Rattle.laws.proofs.Safety.{moving_gears_have_doors_open}

-- ---- The table is what runs

-- Without a cause there is no anomaly, and the sequence moves.
moves : (cause : ℕ) (stayed next : Place) → cause ≡ 0 → cond (not (eqb cause 0)) stayed next ≡ next
moves cause stayed next none = rw none refl

accepted_runs : (s : State) (stamp : ℕ) (bytes : List ℕ) → (accepted s stamp bytes).core.cause ≡ 0
    → (accepted s stamp bytes).core.place ≡ entry_at (number_of (asked_by s bytes))
unfolding anomaly stages core_stages next_of
accepted_runs s stamp bytes none = moves _ _ _ none ∙ sym (table_tells (asked_by s bytes))

pub the_table_runs : (s : State) → TheTableRuns s
the_table_runs s stamp bytes taken =
    subst (λ (t : State). t.core.cause ≡ 0 → t.core.place ≡ entry_at (number_of (asked_by s bytes)))
    (sym (taken_is_accepted s stamp bytes taken))
    (accepted_runs s stamp bytes)

-- ---- Which entries can be asked

asks_what_can_be_asked : Always AsksWhatCanBeAsked
unfolding can_be_asked
asks_what_can_be_asked s reached bytes =
    rw (asked_at_number (asked_by s bytes)) (moving_gears_have_doors_open s reached)

-- 640 numbers below 1,024 can be asked, and a reached state asks no other.
pub no_more_can_be_asked : (how_many can_be_asked entries ≡ can_be_asked_in_all) × Always AsksWhatCanBeAsked
unfolding how_many can_be_asked asked_at facts_at moving_have_open doors_at gears_at
no_more_can_be_asked = (refl, asks_what_can_be_asked)

-- ---- What the ground changes

pub so_many_are_changed : how_many changed_by_ground entries ≡ changed_in_all
unfolding how_many changed_by_ground ruled_at place_number next_of asked_at facts_at doors_at gears_at
    at_aim next_gears doors_to_gears doors_home move_of aim_in_force
so_many_are_changed = refl
