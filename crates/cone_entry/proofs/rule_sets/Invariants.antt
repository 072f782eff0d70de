use mathlib.Core.Path.{◌≡◌}
use Prim.Native.Nat.{◌-◌}
use lib.ListN.{get_or}
use Rattle.lint_collect.specs.Collect.{fill_m}
use Rattle.lint_walk.specs.Walks.{walk_m}
use Rattle.lint_access.specs.Sets.{writes_m}
use Rattle.cone_sets.specs.Sets.{needs_m}
use Rattle.cone_entry.specs.Promises.{writes_each_m, needs_each_m}
use Rattle.cone_entry.proofs.rule_sets.Given as goal

abbrev pub invariant-loop-i : goal.invariant-loop-i
invariant-loop-i l =
    (writes_each_m l.s l.entities l.rules ≡ fill_m (λ k. writes_m l.s l.entities (walk_m l.s (get_or l.rules.starts k 0))) (l.n - l.i) l.i l.writes)
    × (needs_each_m l.s l.entities l.rules ≡ fill_m (λ k. needs_m l.s l.entities (get_or l.rules.starts k 0)
    (walk_m l.s (get_or l.rules.starts k 0))) (l.n - l.i) l.i l.needs)
