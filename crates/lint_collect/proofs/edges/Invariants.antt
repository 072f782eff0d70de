use borrow.Author.Rules.{rules}
use mathlib.Core.Path.{◌≡◌}
use Prim.Native.Nat.{◌-◌}
use lib.ListN.{get_or}
use Rattle.lint_walk.specs.Walks.{walk_m}
use Rattle.lint_conditions.specs.Context.{section_of}
use Rattle.lint_collect.specs.Collect.{fill_m, row_m, edges_m}
use Rattle.lint_collect.proofs.edges.Given as goal

abbrev pub invariant-loop-i : goal.invariant-loop-i
invariant-loop-i l =
    edges_m l.s l.star (section_of l.rules l.extent) ≡ fill_m (λ i. row_m l.s l.star (section_of l.rules l.extent) (walk_m l.s (get_or l.rules i 0)))
    (l.count - l.i) l.i l.start
