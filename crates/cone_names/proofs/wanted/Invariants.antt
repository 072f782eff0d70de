use mathlib.Core.Path.{◌≡◌}
use Prim.Native.Nat.{◌-◌}
use Rattle.cone_names.specs.Undeclared.{wanted_m, some_m}
use Rattle.cone_names.proofs.wanted.Given as goal

abbrev pub invariant-loop-j : goal.invariant-loop-j
invariant-loop-j l = wanted_m l.u l.automations l.place ≡ some_m l.u l.automations l.place (64 - l.j) l.j
