-- `running::all` meets its contract: what was done so far stays right with each step, and at the end it is all.
-- Assumes nothing.
use Rattle.std.proofs.Common.{◌≡◌, true, sym, refl, ◌∙◌, arith, rules}
use Rattle.loops.specs.Progresses.{goes_on}
use Rattle.loops.proofs.Laws.{goes_on_before_the_end}
use Rattle.std.proofs.lemmas.Option.{IfSome_then}
use Rattle.running.proofs.Along.{begins, stepped, finished}
use Rattle.running.proofs.all.Goals as goal

pub loop-init : goal.loop-init
loop-init g c = rw c.first.ensures (refl, refl, refl, omega arith, omega arith, refl, begins _ _ _ _ (search rules))

pub returns-then-not-goes_on : goal.returns-then-not-goes_on
returns-then-not-goes_on g c =
    let rule = g.T.Task.rule in
    let laws = g.met.T.Task.right in
    let comes = rule.all_of c.args.start c.args.line.now in
    let before = c.loop in
    let s = c.step.new in
    let at = c.in_ok-at.at in
    let e = c.ended in
    let kept =
    stepped rule laws c.args.put comes before.at at before.input s.input before.line s.line before.out s.out
    (before.invariant.1 ∙ c.requires.0) (omega (arith, before.invariant.2, c.requires.1)) before.invariant.3 before.invariant.4 before.invariant.5
    before.invariant.6 c.in_ok-at.ensures in
    IfSome_then e.result e.ensures
    (λ ran last.
    finished rule laws c.args.put comes at ran s.input s.line e.new.line s.out e.new.out (omega (arith, before.invariant.2, c.step.auto.out, c.requires.1))
    kept (sym c.goes_on.ensures ∙ c.if-not-goes_on.true) last)

pub loop-preserved : goal.loop-preserved
loop-preserved g c =
    let rule = g.T.Task.rule in
    let comes = rule.all_of c.args.start c.args.line.now in
    let before = c.loop in
    let s = c.step.new in
    let at = c.in_ok-at.at in
    let kept =
    stepped rule g.met.T.Task.right c.args.put comes before.at at before.input s.input before.line s.line before.out s.out
    (before.invariant.1 ∙ c.requires.0) (omega (arith, before.invariant.2, c.requires.1)) before.invariant.3 before.invariant.4 before.invariant.5
    before.invariant.6 c.in_ok-at.ensures in
    let on : goes_on at.progress (rule.is_ended at.work) ≡ true = sym c.goes_on.ensures ∙ c.if-not-goes_on.false in (
      c.step.auto.input ∙ before.invariant.0,
      c.step.auto.line ∙ before.invariant.1,
      c.step.auto.out ∙ before.invariant.2,
      kept.ordered,
      kept.inside,
      goes_on_before_the_end at.progress (rule.is_ended at.work) on,
      kept.so_far,
    )
