-- `texts::on_off` meets its contract, by its two cases.
-- Assumes nothing.
use Rattle.texts.proofs.on_off.Goals as goal

pub returns-then-on : goal.returns-then-on
returns-then-on c = simp c.if-on.true

pub returns-else-on : goal.returns-else-on
returns-else-on c = simp c.if-on.false
