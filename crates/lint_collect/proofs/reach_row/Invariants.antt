use borrow.Author.Rules.{rules}
use mathlib.Core.Path.{◌≡◌}
use Prim.Native.Nat.{◌-◌}
use mathlib.Core.Bool.{false}
use lib.ListN.{get_or, replicate}
use Rattle.lint_walk.specs.Walks.{walk_by}
use Rattle.lint_collect.specs.Collect.{leads_to_m, fill_m}
use Rattle.lint_collect.proofs.reach_row.Given as goal

abbrev pub invariant-loop-j : goal.invariant-loop-j
invariant-loop-j l =
    fill_m (λ j. leads_to_m l.s l.star (walk_by l.list l.count) (get_or l.rules j 0)) (l.n - 0) 0 (replicate 32 false)
    ≡ fill_m (λ j. leads_to_m l.s l.star (walk_by l.list l.count) (get_or l.rules j 0)) (l.n - l.j) l.j l.row
