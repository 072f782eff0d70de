use Prim.Native.Nat.{◌-◌}
use mathlib.Core.Path.{◌≡◌}
use Rattle.model_check.specs.Checks.{among}
use Rattle.model_check.proofs.among.Given as goal

abbrev pub invariant-loop : goal.invariant-loop
invariant-loop l = among l.count l.s l.at l.place ≡ among (l.count - l.counter) l.s l.p l.place
