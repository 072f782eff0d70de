use mathlib.Core.Path.{◌≡◌}
use Prim.Native.Nat.{◌-◌}
use Rattle.lint_walk.specs.Walks.{walk_by}
use Rattle.lint_conditions.specs.Conditions.{any_list_m}
use Rattle.lint_undeclared.specs.Undeclared.{await_m, awaits_m}
use Rattle.lint_undeclared.proofs.awaits.Given as goal

abbrev pub invariant-loop-k : goal.invariant-loop-k
invariant-loop-k l = awaits_m l.s (walk_by l.list l.count) l.place ≡ any_list_m (await_m l.s l.place) l.list (l.count - l.k) l.k
