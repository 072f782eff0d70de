use native.Mathlib.Omega.{arith}
use Rattle.engine_state.proofs.Laws.{none, one, two, both}
use Rattle.engine_state.proofs.Laws as states
use Rattle.engine_schedule.specs.Events.{begun_m, add_events_m, add_expiries_m}
use Rattle.engine_schedule.proofs.begun.Goals as goal

pub add_events-s2-requires : goal.add_events-s2-requires
add_events-s2-requires c = (omega (arith, c.requires), omega (arith, c.requires, c.log_plain-s1.ensures.queue))

pub add_expiries-requires : goal.add_expiries-requires
add_expiries-requires c = omega (arith, c.add_events-s2.ensures.queue)

pub returns : goal.returns
unfolding begun_m
returns c =
    states.moves (λ v n s. states.follow (add_expiries_m _)
    (states.follow (add_events_m _ _) (c.log_plain-s1.ensures.does _ _ _) (c.add_events-s2.ensures.does _ _ _)
    two one none none) (c.add_expiries.ensures.does _ n _) both one none none)
