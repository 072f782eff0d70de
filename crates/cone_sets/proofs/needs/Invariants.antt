use mathlib.Core.Path.{◌≡◌}
use Prim.Native.Nat.{◌-◌}
use Rattle.lint_walk.specs.Walks.{walk_by}
use Rattle.lint_access.specs.Sets.{section_by, over}
use Rattle.cone_sets.specs.Sets.{add_toggle_m, needs_m}
use Rattle.cone_sets.proofs.needs.Given as goal

abbrev pub invariant-loop-k : goal.invariant-loop-k
invariant-loop-k l =
    needs_m l.s (section_by l.entities l.many) l.at (walk_by l.list l.count)
    ≡ over (add_toggle_m l.s (section_by l.entities l.many)) l.list (l.count - l.k) l.k l.set
