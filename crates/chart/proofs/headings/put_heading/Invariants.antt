-- `chart::headings::put_heading` meets its contract: after so many turns so many of its words are put.
-- Assumes nothing.
use Rattle.std.proofs.Common.{take}
use Rattle.std.specs.List.{flat_map}
use Rattle.texts.specs.Lines.{PutsIfRoom}
use Rattle.chart.proofs.headings.put_heading.Given as goal

abbrev pub invariant-loop-word : goal.invariant-loop-word
invariant-loop-word l = PutsIfRoom (flat_map (λ word. word.now) (take l.word-index l.words)) l.initial.text l.text
