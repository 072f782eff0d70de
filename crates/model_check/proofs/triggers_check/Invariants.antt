use Prim.Native.Nat.{◌-◌}
use mathlib.Core.Path.{◌≡◌}
use Rattle.model_check.specs.Checks.{declaration, triggers_m, times_m, trigger_m}
use Rattle.model_check.proofs.triggers_check.Given as goal

abbrev pub invariant-loop : goal.invariant-loop
invariant-loop l = triggers_m (declaration l.d l.entities) l.count l.s l.at l.n ≡ times_m (l.count - l.counter) (trigger_m (declaration l.d l.entities)) l.s l.p l.m
