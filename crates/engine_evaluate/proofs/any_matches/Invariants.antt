use Prim.Native.Nat.{◌-◌}
use mathlib.Core.Path.{◌≡◌}
use Rattle.engine_evaluate.specs.Evaluate.{any_m, any_from}
use Rattle.engine_evaluate.proofs.any_matches.Given as goal

abbrev pub invariant-loop : goal.invariant-loop
invariant-loop l = any_m l.f l.m l.at ≡ any_from l.f l.m (l.count - l.counter) l.p
