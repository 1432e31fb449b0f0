-- Document 01, "Session S", as the whole input and the whole output with the lamps of request K1; a part of it that is handed over
-- (request K3); and short inputs that end early.
-- Assumes nothing.
use Rattle.std.specs.Prelude.{List, [], ◌∷◌, ◌++◌, ℕ, take, drop, replicate, Some}
use Prim.Native.String.{String}
use Rattle.common.specs.Ascii.{ascii, cr, lf, ended}
use Rattle.common.specs.Case.{Case}
use Rattle.common.specs.Decimal.{digit0}
use Rattle.lines.specs.Rows.{rows_of}
use Rattle.trace.specs.Header.{header_text as trace_header}
use Rattle.controller.specs.Start.{fresh_of}
use Rattle.output.specs.Rows.{header_text}
use Rattle.reading.specs.declared.Phase.TheVariants.{Rows}
use Rattle.reading.specs.Rows.{nothing_read}
use Rattle.reading.specs.SessionS.{trace_of, at_rest, doors_open, rows_of_s, session_trace}
use Rattle.reading.specs.Whole.{read_to}
use Rattle.lesson.specs.Replay.{written_of, replay_of, resumed_of}

-- An output: its header, and rows that each end in CRLF.
unfoldable pub output : List (List ℕ) → List ℕ
output rows = header_text ++ ended rows

unfoldable pub replays : String → List ℕ → List ℕ → Case
replays name input wanted = record { name = name; gives = replay_of input; wanted = wanted }

-- ---- Session S

unfoldable pub session_s : Case
session_s =
    replays "Session S" session_trace
    (output
    (ascii "0,0,0,0,0,0,0,CLOSED,EXTENDED,1,0,0"
    ∷ ascii "1,0,0,0,0,0,0,CLOSED,EXTENDED,1,0,0"
    ∷ ascii "2,0,1,0,0,0,0,OPENING,EXTENDED,1,0,0"
    ∷ ascii "3,0,1,0,0,0,0,OPENING,EXTENDED,1,0,0"
    ∷ ascii "4,0,1,0,1,0,0,OPENING,EXTENDED,1,0,0"
    ∷ ascii "5,3,1,0,1,0,0,OPENING,EXTENDED,1,0,0"
    ∷ ascii "6,0,1,0,0,0,0,OPEN,EXTENDED,1,1,0"
    ∷ ascii "7,0,1,0,0,1,0,OPEN,RETRACTING,1,1,0"
    ∷ ascii "8,4,1,0,0,1,0,OPEN,RETRACTING,1,1,0"
    ∷ ascii "9,0,1,0,0,0,0,OPEN,EXTENDING,0,1,0"
    ∷ ascii "10,0,1,0,0,0,0,OPEN,EXTENDING,0,1,0"
    ∷ ascii "11,0,1,0,0,0,1,OPEN,EXTENDING,0,1,0"
    ∷ []))

-- Request K3: the same session, handed over behind row 4. Row 0 of the trace that goes on shows the controller as row 4 left it,
-- at its own stamp; 50 and 100 ms after that come what were rows 6 and 7.
unfoldable pub handed_over : Case
handed_over =
    record {
      name = "Session S, handed over behind row 4";
      gives =
          resumed_of (read_to nothing_read (rows_of (trace_of (take 5 rows_of_s)))).state
          (trace_of ((ascii "0,70000," ++ at_rest) ∷ (ascii "1,70050," ++ doors_open) ∷ (ascii "2,70100," ++ doors_open) ∷ []));
      wanted =
          output
          (ascii "0,0,1,0,1,0,0,OPENING,EXTENDED,1,0,0"
          ∷ ascii "1,0,1,0,0,0,0,OPEN,EXTENDED,1,1,0"
          ∷ ascii "2,0,1,0,0,1,0,OPEN,RETRACTING,1,1,0"
          ∷ []);
    }

-- ---- Inputs that end early

-- Row 0 at stamp 1000 and what is written of it.
abbrev pub row0 : List ℕ
row0 = ascii "0,1000," ++ at_rest

abbrev pub shown0 : List ℕ
shown0 = ascii "0,0,0,0,0,0,0,CLOSED,EXTENDED,1,0,0"

unfoldable pub early : List Case
early =
    replays "no header" [] (output (ascii "1,5,,,,,,,,,," ∷ []))
    ∷ replays "a first row that is not the header" (ascii "Step" ++ drop 4 (trace_of [])) (output (ascii "1,5,,,,,,,,,," ∷ []))
    ∷ replays "a first row of 513 bytes" (replicate 513 digit0) (output (ascii "1,6,,,,,,,,,," ∷ []))
    ∷ replays "the header alone, without its CRLF" trace_header (output [])
    ∷ replays "the first label is 1" (trace_of ((ascii "1,1000," ++ at_rest) ∷ [])) (output (ascii "2,7,,,,,,,,,," ∷ []))
    ∷ replays "a wrong label in a row that breaks the form" (trace_of (ascii "1,1000" ∷ row0 ∷ [])) (output (ascii "2,5,,,,,,,,,," ∷ []))
    ∷ replays "a wrong label in a row of 513 bytes" (trace_of ((ascii "7," ++ replicate 511 digit0) ∷ [])) (output (ascii "2,6,,,,,,,,,," ∷ []))
    ∷ replays "512 bytes and a lone CR" (trace_of (row0 ∷ (replicate 512 digit0 ++ cr ∷ []) ∷ [])) (output (shown0 ∷ ascii "3,6,,,,,,,,,," ∷ []))
    ∷ replays "an empty row at the end" (trace_of (row0 ∷ [] ∷ [])) (output (shown0 ∷ ascii "3,5,,,,,,,,,," ∷ []))
    ∷ replays "a CR at the end" (trace_of [] ++ row0 ++ cr ∷ []) (output (ascii "2,5,,,,,,,,,," ∷ []))
    ∷ replays "a last row without its CRLF" (trace_of [] ++ row0) (output (shown0 ∷ []))
    ∷ replays "a lone LF in front of a row" (trace_of ((lf ∷ row0) ∷ [])) (output (ascii "2,5,,,,,,,,,," ∷ []))
    ∷ replays "a label of 4,294,967,296" (trace_of (row0 ∷ (ascii "4294967296,1050," ++ at_rest) ∷ [])) (output (shown0 ∷ ascii "3,5,,,,,,,,,," ∷ []))
    ∷ []

-- After 4,294,967,295 no label is due: a further row in form gets 7, and the line number passes 32 bits.
unfoldable pub after_the_last_label : Case
after_the_last_label =
    record {
      name = "after the last label";
      gives =
          written_of (record { phase = Rows (Some 4294967295); state = fresh_of 1000 })
          ((ascii "4294967295,1100," ++ at_rest) ∷ (ascii "0,1200," ++ at_rest) ∷ []);
      wanted = ended (ascii "4294967295,0,0,0,0,0,0,CLOSED,EXTENDED,1,0,0" ∷ ascii "4294967298,7,,,,,,,,,," ∷ []);
    }
