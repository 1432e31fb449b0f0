-- Request K2: what the writer answers, and what a lent buffer then holds. The dump is written by parts: its head, and then each
-- moment as it comes; what was written last is all that is kept.
-- Assumes nothing.
use Rattle.std.specs.Prelude.{ℕ, ◌+◌, ◌^◌, Bool, cond, ◌||◌, List, ◌++◌, eqb, leb, ltb, length, drop}
use Rattle.dump.specs.declared.Dump.{Dump}
use Rattle.dump.specs.Answers.{Wrote}
use Rattle.dump.specs.Dumps.{Moment, head_text, moment_text}

-- A refusal: its number, the dump as it was, and nothing written.
abbrev pub refused : ℕ → Dump → Wrote
refused n dump = record { refusal = n; dump = dump; written = 0 }

-- A buffer that is shorter than the text that is to be written: 8, and it is left as it was.
abbrev pub lent : Dump → List ℕ → List ℕ → Wrote × List ℕ → Wrote × List ℕ
lent dump text buffer answer = cond (ltb (length buffer) (length text)) (refused 8 dump, buffer) answer

-- Else the text stands in front, the bytes past it stay, and the dump goes on from `after`.
abbrev pub in_front : Dump → List ℕ → List ℕ → Wrote × List ℕ
in_front after text buffer = (record { refusal = 0; dump = after; written = length text }, text ++ drop (length text) buffer)

unfoldable pub placed : Dump → Dump → List ℕ → List ℕ → Wrote × List ℕ
placed before after text buffer = lent before text buffer (in_front after text buffer)

-- The dump at time 0.
abbrev pub starts_with : List Bool → Dump
starts_with values = record { time = 0; values = values }

-- The start: the head, with the values at time 0.
unfoldable pub start_of : List Bool → List ℕ → Wrote × List ℕ
start_of values buffer = placed (starts_with values) (starts_with values) (head_text values) buffer

-- So many ms later, with these values: the moment, and what would be written of it.
abbrev pub moment_after : Dump → ℕ → List Bool → Moment
moment_after dump elapsed values = record { time = dump.time + elapsed; values = values }

abbrev pub text_after : Dump → ℕ → List Bool → List ℕ
text_after dump elapsed values = moment_text dump.values (moment_after dump elapsed values)

-- A time that does not rise, or that would reach 2 ^ 64.
abbrev pub no_time : Dump → ℕ → Bool
no_time dump elapsed = eqb elapsed 0 || leb (2 ^ 64) (dump.time + elapsed)

-- 8 for room, then 9 where there is no such time; with both the dump and the buffer are left as they were.
unfoldable pub next_of : Dump → ℕ → List Bool → List ℕ → Wrote × List ℕ
next_of dump elapsed values buffer =
    lent dump (text_after dump elapsed values) buffer
    (cond (no_time dump elapsed) (refused 9 dump, buffer)
    (in_front (record { time = dump.time + elapsed; values = values }) (text_after dump elapsed values) buffer))
