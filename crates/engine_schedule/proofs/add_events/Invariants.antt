use Prim.Native.Nat.{◌≤◌, ◌-◌}
use Rattle.engine_schedule.specs.Events.{add_events_m}
use Rattle.engine_state.specs.Steps.{Does, kept, goes, still}
use Rattle.engine_schedule.proofs.add_events.Given as goal

abbrev pub invariant-loop-i : goal.invariant-loop-i
invariant-loop-i l = Does (add_events_m l.events l.i) l.initial.s l.s (goes l.initial.q l.q) kept kept still × (l.i ≤ l.count)
