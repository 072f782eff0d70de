use Prim.Native.Nat.{◌-◌}
use mathlib.Core.Path.{◌≡◌}
use Rattle.engine_evaluate.specs.Evaluate.{all_m, all_from}
use Rattle.engine_evaluate.proofs.evaluate_all.Given as goal

abbrev pub invariant-loop : goal.invariant-loop
invariant-loop l = all_m l.f l.x l.values l.second l.at ≡ all_from l.f l.x l.values l.second (l.count - l.counter) l.p l.t
