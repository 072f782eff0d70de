use Prim.Native.Nat.{◌-◌}
use mathlib.Core.Path.{◌≡◌}
use Rattle.checker_judge.specs.Names.{each_m, list_m}
use Rattle.checker_judge.proofs.Named as named
use Rattle.checker_judge.proofs.name_list.Given as goal

abbrev pub invariant-loop : goal.invariant-loop
invariant-loop l = list_m l.f l.at l.initial.named ≡ each_m l.f (l.count - l.counter) l.p l.named
