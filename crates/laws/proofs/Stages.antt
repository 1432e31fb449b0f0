-- What a law about one accepted step opens: `unfolding stages` opens the step into its stages over the whole state, and `unfolding
-- core_stages` opens what each of them does to the core.
-- Assumes nothing.
use Rattle.controller.specs.Stages.{
  core_ages,
  core_handle,
  core_monitors,
  core_sequence,
  core_orders,
  core_step,
  ages_stage,
  vote_stage,
  monitors_stage,
  sequence_stage,
  orders_stage,
  accepted,
}

unfoldable pub stages : Unit {0}
unfolding accepted ages_stage vote_stage monitors_stage sequence_stage orders_stage
stages = tt

unfoldable pub core_stages : Unit {0}
unfolding core_step core_ages core_handle core_monitors core_sequence core_orders
core_stages = tt
