-- Requests K4 and K7: lines of the table as CSV, as they must be.
-- Assumes nothing.
use Rattle.std.specs.Prelude.{ℕ, List, [], ◌∷◌, ◌++◌}
use Prim.Native.String.{String}
use Rattle.common.specs.Ascii.{ascii, crlf}
use Rattle.common.specs.Case.{Case}
use Rattle.chart.specs.Csv.{csv_header, csv_row}

-- A text and the line that it must be.
abbrev pub is_line : List ℕ → String → Case
is_line text line = record { name = line; gives = text; wanted = ascii line ++ crlf }

-- The header, in two parts.
abbrev pub header_line : Case
header_line =
    record {
      name = "header";
      gives = csv_header;
      wanted =
          ascii "entry,on_ground,handle,handle_number,doors,doors_number,gears,gears_number,all_open,all_closed,all_extended,all_retracted,"
          ++ ascii "next_doors,next_doors_number,next_gears,next_gears_number,possible"
          ++ crlf;
    }

-- The header, and rows of both handles, of all doors and gears, with places that no reached state is at (272, 511 and 1023); from 544 to
-- 751 what the ground changes.
unfoldable pub table_lines : List Case
table_lines =
    header_line ∷
    is_line (csv_row 0) "0,0,up,0,CLOSED,0,RETRACTED,0,0,0,0,0,CLOSED,0,RETRACTED,0,1" ∷
    is_line (csv_row 105) "105,0,up,0,OPENING,1,EXTENDED,2,1,0,0,1,OPEN,2,EXTENDED,2,1" ∷
    is_line (csv_row 177) "177,0,up,0,OPEN,2,RETRACTING,3,0,0,0,1,OPEN,2,RETRACTED,0,1" ∷
    is_line (csv_row 272) "272,0,down,1,CLOSED,0,EXTENDING,1,0,0,0,0,OPENING,1,EXTENDING,1,0" ∷
    is_line (csv_row 403) "403,0,down,1,OPEN,2,EXTENDING,1,0,0,1,1,OPEN,2,EXTENDED,2,1" ∷
    is_line (csv_row 495) "495,0,down,1,CLOSING,3,EXTENDED,2,1,1,1,1,CLOSED,0,EXTENDED,2,1" ∷
    is_line (csv_row 511) "511,0,down,1,CLOSING,3,RETRACTING,3,1,1,1,1,OPENING,1,RETRACTING,3,0" ∷
    is_line (csv_row 512) "512,1,up,0,CLOSED,0,RETRACTED,0,0,0,0,0,CLOSED,0,RETRACTED,0,1" ∷
    is_line (csv_row 544) "544,1,up,0,CLOSED,0,EXTENDED,2,0,0,0,0,CLOSED,0,EXTENDED,2,1" ∷
    is_line (csv_row 615) "615,1,up,0,OPENING,1,EXTENDED,2,0,1,1,1,CLOSING,3,EXTENDED,2,1" ∷
    is_line (csv_row 687) "687,1,up,0,OPEN,2,EXTENDED,2,1,1,1,1,CLOSING,3,EXTENDED,2,1" ∷
    is_line (csv_row 739) "739,1,up,0,CLOSING,3,EXTENDED,2,0,0,1,1,CLOSING,3,EXTENDED,2,1" ∷
    is_line (csv_row 740) "740,1,up,0,CLOSING,3,EXTENDED,2,0,1,0,0,CLOSED,0,EXTENDED,2,1" ∷
    is_line (csv_row 1023) "1023,1,down,1,CLOSING,3,RETRACTING,3,1,1,1,1,OPENING,1,RETRACTING,3,0" ∷
    []
