use Rattle.model_walk.specs.Walk.{Walked}
use mathlib.Core.Path.{◌≡◌}
use Prim.Native.Nat.{◌-◌}
use lib.ListN.{get_or}
use Rattle.lint_collect.specs.Collect.{fill_m}
use Rattle.lint_walk.specs.Walks.{walk_m}
use Rattle.lint_access.specs.Sets.{reads_m, writes_m}
use Rattle.lint_entry.specs.Promises.{read_sets, write_sets}
use Rattle.lint_entry.proofs.rule_sets.Given as goal

abbrev pub invariant-loop-i : goal.invariant-loop-i
invariant-loop-i l =
    (z y : Walked) →
    (read_sets l.s (record { count = l.many; starts = l.entities; end = z }) (record { count = l.n; starts = l.rules; end = y })
    ≡ fill_m (λ k. reads_m l.s (record { count = l.many; starts = l.entities; end = z }) (get_or l.rules k 0)
    (walk_m l.s (get_or l.rules k 0))) (l.n - l.i) l.i l.reads)
    × (write_sets l.s (record { count = l.many; starts = l.entities; end = z }) (record { count = l.n; starts = l.rules; end = y })
    ≡ fill_m (λ k. writes_m l.s (record { count = l.many; starts = l.entities; end = z }) (walk_m l.s (get_or l.rules k 0))) (l.n - l.i)
    l.i l.writes)
