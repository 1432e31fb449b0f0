-- No second answer meets the contract of a public function of this crate.
-- Assumes nothing.
use Rattle.std.proofs.Common.{sym, ◌∙◌}
use Rattle.common.specs.OneAnswer.{OneAnswer}
use Rattle.controller.proofs.Said.{said_once}
use Rattle.controller.proofs.State.fresh.Kinds as state_fresh_kinds
use Rattle.controller.proofs.State.fresh.Reads as state_fresh_reads
use Rattle.controller.proofs.State.step.Kinds as state_step_kinds
use Rattle.controller.proofs.State.step.Reads as state_step_reads
use Rattle.controller.proofs.State.lights.Kinds as state_lights_kinds
use Rattle.controller.proofs.State.lights.Reads as state_lights_reads
use Rattle.controller.proofs.State.shown.Kinds as state_shown_kinds
use Rattle.controller.proofs.State.shown.Reads as state_shown_reads
use Rattle.controller.proofs.State.values.Kinds as state_values_kinds
use Rattle.controller.proofs.State.values.Reads as state_values_reads
use Rattle.controller.proofs.State.cause.Kinds as state_cause_kinds
use Rattle.controller.proofs.State.cause.Reads as state_cause_reads
use Rattle.controller.proofs.State.started_at.Kinds as state_started_at_kinds
use Rattle.controller.proofs.State.started_at.Reads as state_started_at_reads
use Rattle.controller.proofs.State.invalid.Kinds as state_invalid_kinds
use Rattle.controller.proofs.State.invalid.Reads as state_invalid_reads

pub state_fresh_once : OneAnswer 0 state_fresh_kinds.ps state_fresh_kinds.r state_fresh_reads.Post
state_fresh_once κs a x y s t p q = p ∙ sym q

pub state_step_once : OneAnswer 1 state_step_kinds.ps state_step_kinds.r state_step_reads.Post
state_step_once κs a x y s t p q = said_once _ x y (p ∙ sym q)

pub state_lights_once : OneAnswer 0 state_lights_kinds.ps state_lights_kinds.r state_lights_reads.Post
state_lights_once κs a x y s t p q = p ∙ sym q

pub state_shown_once : OneAnswer 0 state_shown_kinds.ps state_shown_kinds.r state_shown_reads.Post
state_shown_once κs a x y s t p q = p ∙ sym q

pub state_values_once : OneAnswer 0 state_values_kinds.ps state_values_kinds.r state_values_reads.Post
state_values_once κs a x y s t p q = p ∙ sym q

pub state_cause_once : OneAnswer 0 state_cause_kinds.ps state_cause_kinds.r state_cause_reads.Post
state_cause_once κs a x y s t p q = p ∙ sym q

pub state_started_at_once : OneAnswer 0 state_started_at_kinds.ps state_started_at_kinds.r state_started_at_reads.Post
state_started_at_once κs a x y s t p q = p ∙ sym q

pub state_invalid_once : OneAnswer 0 state_invalid_kinds.ps state_invalid_kinds.r state_invalid_reads.Post
state_invalid_once κs a x y s t p q = p ∙ sym q
