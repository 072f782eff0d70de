use native.Mathlib.Omega.{arith}
use Rattle.engine_state.proofs.Laws.{none, both, same}
use Rattle.engine_state.proofs.Laws as states
use Rattle.engine_schedule.proofs.Laws as laws
use Prim.Native.Nat.{◌-◌}
use Rattle.engine_schedule.specs.Events.{add_event_m}
use Rattle.engine_schedule.proofs.add_events.Goals as goal

pub loop-i-init : goal.loop-i-init
loop-i-init c = (
  states.moves (λ v n s. states.stay (λ k. laws.events_none _ _) (same (omega (arith, c.requires)))
      none none none),
  omega arith,
)

pub add_event-s-requires : goal.add_event-s-requires
add_event-s-requires c = (
  omega (arith, c.requires),
  omega (arith, c.loop-i.invariant.0.queue),
)

pub loop-i-preserved : goal.loop-i-preserved
loop-i-preserved c = (
  states.moves
      (λ v n s. states.renamed _ (states.follow (add_event_m _ _) (c.loop-i.invariant.0.does _ _ _)
      (c.add_event-s.ensures.does _ _ _) both none none none) (λ k. laws.events_more _ _ _)),
  omega arith,
)

pub returns : goal.returns
returns c =
    states.moves (λ v n s. states.renamed _ (c.loop-i.invariant.0.does _ _ _)
    (λ k. laws.events_all _ _ _ _ (omega arith)))
