use mathlib.Core.Path.{◌≡◌}
use Prim.Native.Nat.{◌≤◌, ◌-◌}
use Rattle.engine_trigger.specs.Runs.{wake_first_m}
use Rattle.engine_state.specs.Steps.{Does, kept, goes, still}
use Rattle.engine_trigger.proofs.wake.Given as goal

abbrev pub invariant-loop-k : goal.invariant-loop-k
invariant-loop-k l =
    Does (wake_first_m l.f l.m l.k) l.initial.s l.s (goes l.initial.q l.q) kept (goes l.initial.r l.r) still
    × ((l.k ≤ l.n) × (l.s.live_runs ≡ l.n))
