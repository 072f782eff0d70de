use mathlib.Core.Path.{refl, ◌∙◌}
use native.Mathlib.Omega.{arith}
use Rattle.engine_state.proofs.Laws.{none, both, same}
use Rattle.engine_state.proofs.Laws as states
use Rattle.engine_trigger.proofs.Laws as laws
use Prim.Native.Nat.{◌-◌}
use Rattle.engine_trigger.specs.Runs.{wake_one_m}
use Rattle.engine_trigger.proofs.wake.Goals as goal

pub loop-k-init : goal.loop-k-init
loop-k-init c = (
  states.moves (λ v n s. states.stay (λ k. laws.wake_none _ _ _) (same (omega (arith, c.requires))) none
      (same (omega (arith, c.requires))) none),
  (omega (arith, c.requires), refl),
)

pub wake_one-s-requires : goal.wake_one-s-requires
wake_one-s-requires c = (
  omega (arith, c.requires),
  (
    omega (arith, c.requires, c.loop-k.invariant.0.queue),
    omega (arith, c.requires, c.loop-k.invariant.0.runs),
  ),
)

pub loop-k-preserved : goal.loop-k-preserved
loop-k-preserved c = (
  states.moves
      (λ v n s. states.renamed _ (states.follow (wake_one_m _ _ _) (c.loop-k.invariant.0.does _ _ _)
      (c.wake_one-s.ensures.0.does _ _ _) both none both none) (λ k. laws.wake_more _ _ _ _)),
  (omega (arith, c.requires), c.wake_one-s.ensures.1 ∙ c.loop-k.invariant.1.1),
)

pub returns : goal.returns
returns c = states.moves (λ v n s. laws.wake_all _ _ _ (omega (arith, c.requires)) (c.loop-k.invariant.0.does _ _ _))
