use Prim.Native.Nat.{◌-◌}
use mathlib.Core.Path.{◌≡◌}
use Rattle.engine_evaluate.specs.Evaluate.{select_m, select_from}
use Rattle.engine_evaluate.proofs.select.Given as goal

abbrev pub invariant-loop : goal.invariant-loop
invariant-loop l = select_m l.f l.x l.values l.second l.at ≡ select_from l.f l.x l.values l.second (l.count - l.counter) l.p
