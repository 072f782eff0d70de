use native.Mathlib.Omega.{arith}
use Rattle.engine_state.proofs.Laws.{none, one, both}
use Rattle.engine_state.proofs.Laws as states
use Rattle.engine_actions.specs.Actions.{set_m}
use Rattle.engine_modes.specs.Modes.{now_m}
use Rattle.engine_actions.proofs.set.Goals as goal

pub next_step-requires : goal.next_step-requires
next_step-requires c = omega (arith, c.write-s1.ensures.queue)

pub returns : goal.returns
unfolding set_m
returns c =
    states.moves (λ v n s. states.follow (now_m _) (c.write-s1.ensures.does v n _)
    (c.next_step.ensures.does _ _ _) both one none none)
