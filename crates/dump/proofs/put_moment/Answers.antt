-- `dump::put_moment` meets its contract: where something changes, and where nothing does.
-- Assumes nothing.
use mathlib.Core.Path.{◌≡◌, sym, ap, ◌∙◌}
use lib.ListN.{length}
use Rattle.texts.proofs.Lines.{and, same, nothing}
use Rattle.dump.specs.Wires.{wires, first_code}
use Rattle.dump.specs.Dumps.{changes_from, timed, moment_text}
use Rattle.dump.proofs.Lines.{is_timed, no_change, some_change}
use borrow.Author.Rules.{rules}
use Rattle.dump.proofs.put_moment.Goals as goal

pub returns : goal.returns
unfolding moment_text
returns c =
    let a = c.args in
    let long : length a.olds ≡ wires = search (rules, c.well_formed) in
    let long' : length a.news ≡ wires = search (rules, c.well_formed) in
    let some = some_change first_code a.olds a.news (long ∙ sym long') (sym c.eq.ensures ∙ c.if-eq.false) in
    same (sym (is_timed a.time (changes_from first_code a.olds a.news) some)) (and c.put_time.ensures c.put_changes.ensures)

pub returns-then-eq : goal.returns-then-eq
unfolding moment_text
returns-then-eq c =
    let a = c.args in
    same (sym (ap (timed a.time) (no_change first_code a.olds a.news (sym c.eq.ensures ∙ c.if-eq.true)))) nothing
