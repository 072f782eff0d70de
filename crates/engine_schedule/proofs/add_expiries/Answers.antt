use native.Mathlib.Omega.{arith}
use Rattle.engine_state.proofs.Laws.{none, both, same}
use Rattle.engine_state.proofs.Laws as states
use Rattle.engine_schedule.proofs.Laws as laws
use Prim.Native.Nat.{◌-◌}
use Rattle.engine_update.specs.Update.{expiry_m}
use Rattle.engine_schedule.proofs.add_expiries.Goals as goal

pub loop-e-init : goal.loop-e-init
loop-e-init c = (
  states.moves (λ v n s. states.stay (λ k. laws.expiries_none _ _) (same (omega (arith, c.requires))) none none none),
  omega arith,
)

pub expiry-s-requires : goal.expiry-s-requires
expiry-s-requires c = (
  omega (arith, c.at_most-n.ensures),
  omega (arith, c.loop-e.invariant.0.queue),
)

pub loop-e-preserved : goal.loop-e-preserved
loop-e-preserved c = (
  states.moves
      (λ v n s. states.renamed _ (states.follow (expiry_m _ _) (c.loop-e.invariant.0.does _ n _)
      (c.expiry-s.ensures.does _ n _) both none none none) (λ k. laws.expiries_more _ _ _)),
  omega arith,
)

pub returns : goal.returns
returns c =
    states.moves (λ v n s. states.renamed _ (c.loop-e.invariant.0.does _ n _)
    (λ k. laws.expiries_all _ _ _ _ (omega arith) c.at_most-n.ensures.0))
