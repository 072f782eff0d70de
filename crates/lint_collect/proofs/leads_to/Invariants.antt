use mathlib.Core.Path.{◌≡◌}
use Prim.Native.Nat.{◌-◌}
use Rattle.lint_walk.specs.Walks.{walk_by}
use Rattle.lint_conditions.specs.Conditions.{any_list_m}
use Rattle.lint_collect.specs.Collect.{action_leads_m, leads_to_m}
use Rattle.lint_collect.proofs.leads_to.Given as goal

abbrev pub invariant-loop-k : goal.invariant-loop-k
invariant-loop-k l =
    leads_to_m l.s l.star (walk_by l.list l.count) l.at
    ≡ any_list_m (action_leads_m l.s l.star l.at) l.list (l.count - l.k) l.k
