-- A result of a step is known by the answer that it says.
-- Assumes nothing.
use Rattle.std.proofs.Common.{◌≡◌, ap}
use Rattle.std.specs.Prelude.{Result}
use Rattle.refusals.specs.declared.Refusal.{Refusal}
use Rattle.refusals.proofs.Laws.{left_once}
use Rattle.controller.specs.declared.State.{State}
use Rattle.controller.specs.Answers.{Answer, answer_says}

pub said_once : (before : State) (x y : Result State Refusal) → answer_says before x ≡ answer_says before y → x ≡ y
said_once before x y e = left_once before x y (ap (λ (a : Answer). a.refusal) e) (ap (λ (a : Answer). a.state) e)
