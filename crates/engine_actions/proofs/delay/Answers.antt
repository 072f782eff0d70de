use native.Mathlib.Omega.{arith}
use Rattle.engine_state.proofs.Laws.{none, one, two}
use Rattle.engine_state.proofs.Laws as states
use Rattle.engine_actions.proofs.Laws as laws
use Rattle.engine_actions.specs.Actions.{delay_m, after_m}
use Rattle.engine_actions.proofs.delay.Goals as goal

pub next_step-requires : goal.next_step-requires
next_step-requires c = omega (arith, c.requires, c.log_action-s1.ensures.queue)

pub returns : goal.returns
unfolding delay_m
returns c =
    states.moves (λ v n s. states.follow (after_m _ _) (c.log_action-s1.ensures.does _ _ _)
    (states.renamed _ (c.next_step.ensures.does _ _ _)
    (λ k. laws.after_is _ _ _ _ c.after-second.ensures)) two one none none)
