-- The triples from `at` on are the channels kept so far, and then those still due from `next` on.
-- Assumes nothing.
use Rattle.std.proofs.Common.{◌≡◌, ◌-◌, ◌*◌, length, take}
use Rattle.common.specs.Answers.{gives}
use Rattle.trace.specs.Rows.{fields_from, joined, triples_of}
use Rattle.trace.proofs.read_triples.Given as goal

abbrev pub invariant-loop-i : goal.invariant-loop-i
invariant-loop-i l =
    record {
      whole : length l.channels ≡ 54;
      so_far : triples_of 18 (fields_from l.row l.at) ≡ joined (gives (take (3 * l.i) l.channels)) (triples_of (18 - l.i) (fields_from l.row l.next));
    }
