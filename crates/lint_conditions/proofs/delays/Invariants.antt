use mathlib.Core.Path.{◌≡◌}
use Prim.Native.Nat.{◌-◌}
use lib.Dec.{eqb}
use Rattle.lint_conditions.specs.Conditions.{any_list_m, delays_m}
use Rattle.lint_walk.specs.Raw.{kind_m}
use Rattle.lint_walk.specs.Walks.{walk_by}
use Rattle.lint_conditions.proofs.delays.Given as goal

abbrev pub invariant-loop-k : goal.invariant-loop-k
invariant-loop-k l = delays_m l.s (walk_by l.list l.count) ≡ any_list_m (λ p. eqb (kind_m l.s p) 2) l.list (l.count - l.k) l.k
