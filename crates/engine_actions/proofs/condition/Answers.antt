use native.Mathlib.Omega.{arith}
use Rattle.engine_state.proofs.Laws.{two, both}
use Rattle.engine_state.proofs.Laws as states
use Rattle.engine_actions.proofs.Laws as laws
use Rattle.engine_actions.specs.Actions.{tested_m}
use Rattle.engine_actions.proofs.condition.Goals as goal

pub tested-requires : goal.tested-requires
tested-requires c = (
  omega (arith, c.requires, c.log_action-s1.ensures.runs),
  (
    omega (arith, c.requires, c.log_action-s1.ensures.queue),
    (
      omega (arith, c.log_action-s1.ensures.records),
      (
        omega (arith, c.requires, c.log_action-s1.ensures.runs),
        (omega (arith, c.requires, c.log_action-s1.ensures.reasons), omega (arith, c.requires)),
      ),
    ),
  ),
)

pub returns : goal.returns
returns c =
    states.moves
    (λ v n s. states.renamed _ (states.follow (tested_m _ _ _ _ _) (c.log_action-s1.ensures.does _ _ _)
    (c.tested.ensures.does _ _ _) two both two two)
    (λ k. laws.condition_is _ _ _ _ _ _ _ _ _ c.evaluate-t.ensures c.number_of-detail.ensures))
