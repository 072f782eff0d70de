use mathlib.Core.Path.{◌≡◌}
use Prim.Native.Nat.{◌-◌}
use Rattle.lint_conditions.specs.Conditions.{any_m, sets_off_m, leads_m}
use Rattle.lint_walk.specs.Raw.{past}
use Rattle.lint_conditions.proofs.leads.Given as goal

abbrev pub invariant-loop : goal.invariant-loop
invariant-loop l = leads_m l.s l.star l.x l.v l.at ≡ any_m (sets_off_m l.s l.star l.x l.v) (λ q. past l.s q 16) (l.count - l.counter) l.p
