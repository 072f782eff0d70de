use mathlib.Core.Path.{◌≡◌}
use Prim.Native.Nat.{◌-◌}
use Rattle.lint_access.specs.Sets.{section_by, over}
use Rattle.cone_sets.specs.Sets.{add_named_m, named_m}
use Rattle.cone_sets.proofs.named.Given as goal

abbrev pub invariant-loop-k : goal.invariant-loop-k
invariant-loop-k l =
    named_m l.s (section_by l.entities l.many) l.invariants ≡ over (add_named_m l.s (section_by l.entities l.many)) l.invariants.starts
    (l.count - l.k) l.k l.set
