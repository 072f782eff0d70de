use mathlib.Core.Path.{◌≡◌}
use Prim.Native.Nat.{◌-◌}
use Rattle.cone_names.specs.Undeclared.{from_m, names_m}
use Rattle.cone_names.proofs.names_in.Given as goal

abbrev pub invariant-loop-place : goal.invariant-loop-place
invariant-loop-place l = names_m l.u l.automations l.texts ≡ from_m l.u l.automations (l.texts - l.place) l.place l.n
