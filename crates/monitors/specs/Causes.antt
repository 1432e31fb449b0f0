-- Document 01, "Monitors": over the orders as they stood before this step, the grown ages and the new votes.
-- Assumes nothing.
use Rattle.std.specs.Prelude.{Bool, not, ◌&&◌, List, [], ◌∷◌, ℕ, leb}
use Rattle.common.specs.Lowest.{lowest}
use Rattle.orders.specs.declared.Orders.{Orders}
use Rattle.orders.specs.Timing.{on_for, off_for}
use Rattle.monitors.specs.declared.Sight.{Sight}

-- The thirteen causes, in their order: orders, the handle's age, what is seen.
unfoldable pub causes : Orders → ℕ → Sight → List Bool
causes os since see =
    -- 1, 2: open_EV on, age 7,000 or more, and some door seen closed / not all seen open
    (on_for 7000 os.opens && see.closed.any) ∷
    (on_for 7000 os.opens && not see.opened.all) ∷
    -- 3, 4: close_EV on, 7,000 or more, and some door seen open / not all seen closed
    (on_for 7000 os.closes && see.opened.any) ∷
    (on_for 7000 os.closes && not see.closed.all) ∷
    -- 5: retract_EV on, 7,000 or more, some gear seen extended
    (on_for 7000 os.retracts && see.extended.any) ∷
    -- 6: retract_EV on, 10,000 or more, not all seen retracted
    (on_for 10000 os.retracts && not see.retracted.all) ∷
    -- 7: extend_EV on, 7,000 or more, some gear seen retracted
    (on_for 7000 os.extends && see.retracted.any) ∷
    -- 8: extend_EV on, 10,000 or more, not all seen extended
    (on_for 10000 os.extends && not see.extended.all) ∷
    -- 9: general_EV on, 2,000 or more, circuit not pressurized
    (on_for 2000 os.general && not see.pressurized) ∷
    -- 10: general_EV off, 10,000 or more, circuit pressurized
    (off_for 10000 os.general && see.pressurized) ∷
    -- 11: handle age 1,000 to 19,999 and switch open
    (leb 1000 since && leb since 19999 && not see.switch) ∷
    -- 12: handle age 21,500 or more and switch closed
    (leb 21500 since && see.switch) ∷
    -- 13: some sensor invalid
    see.invalid ∷
    []

-- The lowest number that holds; 0 where none does.
unfoldable pub cause_of : Orders → ℕ → Sight → ℕ
cause_of os since see = lowest 1 (causes os since see)
