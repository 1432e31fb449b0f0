-- Requests K4 and K7: the headings that the page must have, the lines that it must have at three places, and one that it must not show.
-- Assumes nothing.
use Prim.Native.String.{String}
use Rattle.std.specs.Prelude.{List, [], ◌∷◌}
use Rattle.common.specs.Case.{Case}
use Rattle.chart.specs.Headings.{headings_text, first_shown, ground_headings_text}
use Rattle.chart.specs.Page.{air_text, ground_text, lines}

-- Handle up, doors OPENING, gears EXTENDED: the doors become OPEN if all are seen open, and else nothing moves.
unfoldable pub opening_lines : List String
opening_lines =
    "<g class='place' transform='translate(1640 860)'>" ∷
    "<rect width='590' height='318'/>" ∷
    "<text class='numbers' x='570' y='50'>96 to 111</text>" ∷
    "<text class='when' x='28' y='56'>if all open</text>" ∷
    "<text class='moves' x='28' y='116'>doors OPEN</text>" ∷
    "<text class='keeps' x='28' y='174'>gears EXTENDED</text>" ∷
    "<g transform='translate(0 176)'>" ∷
    "<text class='when' x='28' y='56'>else</text>" ∷
    "<text x='28' y='116'>stays</text>" ∷
    "</g>" ∷
    "</g>" ∷
    []

unfoldable pub opening_place : Case
opening_place = record { name = "Doors on their way open"; gives = air_text 6; wanted = lines opening_lines }

-- Handle up, doors CLOSED, gears EXTENDING: no reached state is there, so it is grey.
unfoldable pub grey_lines : List String
grey_lines =
    "<g class='never' transform='translate(1030 525)'>" ∷
    "<rect width='590' height='318'/>" ∷
    "<text class='numbers' x='570' y='50'>16 to 31</text>" ∷
    "<text class='when' x='28' y='56'>always</text>" ∷
    "<text class='moves' x='28' y='116'>doors OPENING</text>" ∷
    "<text class='keeps' x='28' y='174'>gears EXTENDING</text>" ∷
    "</g>" ∷
    []

unfoldable pub grey_place : Case
grey_place = record { name = "A place that no run comes to"; gives = air_text 1; wanted = lines grey_lines }

-- The headings of handle up.
unfoldable pub up_lines : List String
up_lines =
    "<text class='handle' x='120' y='400'>Handle UP</text>" ∷
    "<text class='aim' x='760' y='400'>aims at RETRACTED</text>" ∷
    "<text class='head' x='448' y='495'>gears RETRACTED</text>" ∷
    "<text class='head' x='1058' y='495'>gears EXTENDING</text>" ∷
    "<text class='head' x='1668' y='495'>gears EXTENDED</text>" ∷
    "<text class='head' x='2278' y='495'>gears RETRACTING</text>" ∷
    "<text class='kind' x='120' y='660'>doors</text>" ∷
    "<text class='head' x='120' y='725'>CLOSED</text>" ∷
    "<text class='kind' x='120' y='995'>doors</text>" ∷
    "<text class='head' x='120' y='1060'>OPENING</text>" ∷
    "<text class='kind' x='120' y='1330'>doors</text>" ∷
    "<text class='head' x='120' y='1395'>OPEN</text>" ∷
    "<text class='kind' x='120' y='1665'>doors</text>" ∷
    "<text class='head' x='120' y='1730'>CLOSING</text>" ∷
    []

unfoldable pub up_headings : Case
up_headings = record { name = "Handle up"; gives = headings_text 0; wanted = lines up_lines }

-- Of handle down.
unfoldable pub down_lines : List String
down_lines =
    "<text class='handle' x='120' y='1938'>Handle DOWN</text>" ∷
    "<text class='aim' x='760' y='1938'>aims at EXTENDED</text>" ∷
    "<text class='head' x='448' y='2033'>gears RETRACTED</text>" ∷
    "<text class='head' x='1058' y='2033'>gears EXTENDING</text>" ∷
    "<text class='head' x='1668' y='2033'>gears EXTENDED</text>" ∷
    "<text class='head' x='2278' y='2033'>gears RETRACTING</text>" ∷
    "<text class='kind' x='120' y='2198'>doors</text>" ∷
    "<text class='head' x='120' y='2263'>CLOSED</text>" ∷
    "<text class='kind' x='120' y='2533'>doors</text>" ∷
    "<text class='head' x='120' y='2598'>OPENING</text>" ∷
    "<text class='kind' x='120' y='2868'>doors</text>" ∷
    "<text class='head' x='120' y='2933'>OPEN</text>" ∷
    "<text class='kind' x='120' y='3203'>doors</text>" ∷
    "<text class='head' x='120' y='3268'>CLOSING</text>" ∷
    []

unfoldable pub down_headings : Case
down_headings = record { name = "Handle down"; gives = headings_text 16; wanted = lines down_lines }

-- On ground, handle up, doors CLOSING, gears EXTENDED: they become CLOSED if all are seen closed.
unfoldable pub ground_lines : List String
ground_lines =
    "<g class='place' transform='translate(2250 3601)'>" ∷
    "<rect width='590' height='318'/>" ∷
    "<text class='numbers' x='570' y='50'>736 to 751</text>" ∷
    "<text class='when' x='28' y='56'>if all closed</text>" ∷
    "<text class='moves' x='28' y='116'>doors CLOSED</text>" ∷
    "<text class='keeps' x='28' y='174'>gears EXTENDED</text>" ∷
    "<g transform='translate(0 176)'>" ∷
    "<text class='when' x='28' y='56'>else</text>" ∷
    "<text x='28' y='116'>stays</text>" ∷
    "</g>" ∷
    "</g>" ∷
    []

unfoldable pub ground_place : Case
ground_place = record { name = "On its wheels"; gives = ground_text 14; wanted = lines ground_lines }

-- The same place with the handle down is on ground as in the air: it is not shown again.
unfoldable pub hidden_place : Case
hidden_place = record { name = "Handle down on ground"; gives = ground_text 30; wanted = [] }

-- The headings of the ground.
unfoldable pub on_ground_lines : List String
on_ground_lines =
    "<text class='handle' x='120' y='3476'>Handle UP, on ground</text>" ∷
    "<text class='aim' x='1150' y='3476'>acts as if gears EXTENDED were at the aim</text>" ∷
    "<text class='head' x='448' y='3571'>doors CLOSED</text>" ∷
    "<text class='head' x='1058' y='3571'>doors OPENING</text>" ∷
    "<text class='head' x='1668' y='3571'>doors OPEN</text>" ∷
    "<text class='head' x='2278' y='3571'>doors CLOSING</text>" ∷
    "<text class='kind' x='92' y='3736'>gears</text>" ∷
    "<text class='head' x='92' y='3801'>EXTENDED</text>" ∷
    []

unfoldable pub on_ground_headings : Case
on_ground_headings = record { name = "On ground"; gives = ground_headings_text first_shown; wanted = lines on_ground_lines }
