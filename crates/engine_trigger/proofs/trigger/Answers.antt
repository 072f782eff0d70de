use native.Mathlib.Omega.{arith}
use Rattle.layout.specs.Sizes.{simulation_reason_words}
use Rattle.engine_state.proofs.Laws.{none, two, both, same}
use Rattle.engine_state.proofs.Laws as states
use Rattle.engine_modes.proofs.Laws as modes
use Rattle.engine_modes.proofs.Compose as wholes
use Rattle.engine_trigger.proofs.Laws as laws
use Prim.Native.Nat.{◌≤◌, ◌-◌}
use mathlib.Core.Path.{sym, subst}
use Rattle.engine_trigger.proofs.trigger.Goals as goal

pub loop-i-init : goal.loop-i-init
loop-i-init c = (
  states.moves (λ v n s. states.stay (λ k. laws.offer_none _ _ _ _) (same c.wake-s.ensures.queue.1)
      (same (modes.fits_as 13 _ c.wake-s.ensures.records c.requires.1.0)) (same c.wake-s.ensures.runs.1)
      (same (modes.fits_as 5 _ c.wake-s.ensures.reasons c.requires.1.1.1.0))),
  (omega arith, c.requires.1.1.1.1),
)

pub offer-s-requires : goal.offer-s-requires
offer-s-requires c = (
  omega (arith, c.at_most-n.ensures),
  (
    c.loop-i.invariant.0.queue.1,
    (c.loop-i.invariant.0.records.1, (c.loop-i.invariant.0.runs.1, (c.loop-i.invariant.0.reasons.1, c.loop-i.invariant.1.1))),
  ),
)

pub loop-i-preserved : goal.loop-i-preserved
loop-i-preserved c = (
  wholes.named (wholes.next c.loop-i.invariant.0 c.offer-s.ensures both both both both both none both)
      (λ v n s k. laws.offer_more _ _ _ _ _),
  (
    omega arith,
    subst (λ z. simulation_reason_words ≤ z) (sym c.offer-s.ensures.reasons.0) c.loop-i.invariant.1.1,
  ),
)

pub returns : goal.returns
returns c =
    wholes.named (wholes.next c.wake-s.ensures c.loop-i.invariant.0 both two both two two none two)
    (λ v n s k. laws.trigger_is _ _ _ _ _ _ (omega arith) c.at_most-n.ensures.0)
