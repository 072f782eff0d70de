use Prim.Native.Nat.{◌≤◌, ◌-◌}
use Rattle.engine_schedule.specs.Events.{expiries_m}
use Rattle.engine_state.specs.Steps.{Moves, kept, goes, still}
use Rattle.engine_schedule.proofs.add_expiries.Given as goal

abbrev pub invariant-loop-e : goal.invariant-loop-e
invariant-loop-e l =
    Moves (expiries_m l.x l.e) l.initial.s l.s (goes l.initial.q l.q) kept kept still kept (goes l.versions l.versions)
    kept × (l.e ≤ l.n)
