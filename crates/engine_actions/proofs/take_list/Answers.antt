use native.Mathlib.Omega.{arith}
use Rattle.engine_state.proofs.Laws.{none, one, two}
use Rattle.engine_state.proofs.Laws as states
use Rattle.engine_trigger.proofs.Laws as steps
use Rattle.engine_actions.specs.Actions.{take_list_m}
use Rattle.engine_modes.specs.Modes.{now_m}
use Rattle.engine_state.specs.Changes.{log_action_m}
use borrow.Author.Rules.{rules}
use Rattle.engine_actions.proofs.take_list.Goals as goal

pub next_step-requires : goal.next_step-requires
next_step-requires c = omega (arith, c.requires, c.log_action-s1.ensures.queue)

pub returns : goal.returns
unfolding take_list_m
returns c =
    states.moves
    (λ v n s. states.follow (now_m _) (states.follow (log_action_m 8 _ _ _)
    (steps.replaced _ _ _ (omega (arith, c.requires)) (search rules) _ _ _ c.put_run.ensures
    c.with_list-longer.ensures (omega (arith, c.requires))) (c.log_action-s1.ensures.does _ _ _) none two one none)
    (c.next_step.ensures.does _ _ _) two one one none)
