-- Where a loop from a reader to a writer stands. A part is what one read left at the front of the input buffer; it is taken in by one call
-- or several, and what each call gives is put out.
-- Assumes nothing.
use Rattle.std.specs.Prelude.{ℕ, ◌+◌, ◌-◌, ◌%◌, ◌^◌, Bool, false, not, ◌&&◌, List, take, drop, ◌==◌}
use Rattle.loops.specs.declared.Progress.{Progress}

-- Before the first read nothing is left of a part.
abbrev pub at_first : ℕ → Progress
at_first put = record { left = 0; to = 0; end = false; put = put }

-- A read that answered n: the part is the first n bytes of the input buffer, and with none of them the input has ended.
abbrev pub read_part : Progress → ℕ → Progress
read_part p n = record { left = n; to = n; end = (n == 0); put = p.put }

-- A read that failed, and is to be tried again: there is no part.
abbrev pub not_read : Progress → Progress
not_read p = record { left = 0; to = 0; end = false; put = p.put }

-- So many bytes of what was left are used, and so many put out, modulo 2^64.
abbrev pub taken_in : Progress → ℕ → ℕ → Progress
taken_in p used written = record { left = p.left - used; to = p.to; end = p.end; put = (p.put + written) % 2 ^ 64 }

-- The loop goes on while the input has not ended and no refusal has ended the reading. (Where a read or a write failed for good it is over.)
abbrev pub goes_on : Progress → Bool → Bool
goes_on p refused = not p.end && not refused

-- What of the part in the input buffer is not taken in yet.
abbrev pub left_in : Progress → List ℕ → List ℕ
left_in p input = take p.left (drop (p.to - p.left) input)
