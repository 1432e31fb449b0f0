-- Laws of one step of the orders.
-- Assumes nothing.
use mathlib.Core.Bool.{Bool, true, false, cond, not, ◌&&◌, ◌||◌, beq}
use mathlib.Core.Path.{◌≡◌, refl, sym, subst}
use lib.Dec.{T}
use Rattle.orders.specs.declared.Order.{Order}
use Rattle.orders.specs.Timing.{on_for, off_for, order, switched, directed, general_of}

both : (a b : Bool) → T (a && b) → T a × T b
both true b h = (tt, h)
both false b h = absurd h

-- An order that is switched is as it was told.
told : (on was : Bool) (o : Order) → o.on ≡ was → (cond (beq on was) o (order on 0)).on ≡ on
told true true o e = e
told true false o e = refl
told false true o e = refl
told false false o e = e

pub switched_on : (on : Bool) (o : Order) → (switched on o).on ≡ on
unfolding switched
switched_on on o = told on o.on o refl

-- One of the four that is on after a step and was off before it.
starts : (wanted was general opposite : Bool) → T (not was) → T (wanted && (was || general && opposite)) → T wanted × T (general && opposite)
starts wanted true general opposite off h = absurd off
starts wanted false general opposite off h = both wanted (general && opposite) h

-- None starts in the step that stops its opposite: an order that starts is wanted, general_EV was on for 200 ms, and its
-- opposite was off for 100 ms.
pub starts_after_its_waits : (wanted : Bool) (general opposite o : Order) → T (not o.on) → T (directed wanted general opposite o).on → T wanted × T (on_for 200 general && off_for 100 opposite)
unfolding directed
starts_after_its_waits wanted general opposite o off h =
    starts wanted o.on (on_for 200 general) (off_for 100 opposite) off
    (rw (switched_on _ o) at h)

-- One of the four is on only where it is wanted.
pub on_is_wanted : (wanted : Bool) (general opposite o : Order) → T (directed wanted general opposite o).on → T wanted
unfolding directed
on_is_wanted true general opposite o h = tt
on_is_wanted false general opposite o h = subst T (switched_on false o) h

-- An unwanted one stops at once.
pub unwanted_stops : (general opposite o : Order) → (directed false general opposite o).on ≡ false
unfolding directed
unwanted_stops general opposite o = switched_on false o

needed_on : (was stops : Bool) → T (cond was (true || not stops) true)
needed_on true stops = tt
needed_on false stops = tt

-- General_EV is on after every step in which it is needed: it never stops while doors are not CLOSED without an anomaly.
pub needed_keeps_general : (needed stops : Bool) (o : Order) → T needed → T (general_of needed stops o).on
unfolding general_of
needed_keeps_general true stops o h =
    subst T (sym (switched_on (cond o.on (true || not stops) true) o)) (needed_on o.on stops)
needed_keeps_general false stops o h = absurd h
