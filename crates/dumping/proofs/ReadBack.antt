-- The dump of every trace that has a row 0 is taken back: the reader gives the moments of the trace at which something changes, and with
-- them every value at every time. (Where there is no row 0 nothing is written: `none_without_row_0` of proofs/Law.antt.)
-- Assumes nothing.
use Rattle.std.proofs.Common.{◌≡◌, ℕ, true, List}
use Rattle.common.specs.Answers.{gives}
use Rattle.controller.specs.declared.State.{State}
use Rattle.readback.specs.Reads.{read_of}
use Rattle.readback.specs.Values.{shown}
use Rattle.readback.proofs.Written.{written_is_read}
use Rattle.dumping.specs.Moments.{has_row0, moments_from, waves_from}
use Rattle.dumping.proofs.Law.{moments_rise}

pub waves_read_back : (state : State) (input : List ℕ) → has_row0 input ≡ true
    → read_of (waves_from state input) ≡ gives (shown (moments_from state input))
unfolding waves_from
waves_read_back state input e = written_is_read (moments_from state input) (moments_rise state input e)
