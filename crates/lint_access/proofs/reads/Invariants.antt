use mathlib.Core.Path.{◌≡◌}
use Prim.Native.Nat.{◌-◌}
use Rattle.lint_access.specs.Sets.{section_by, over, add_reads_m}
use Rattle.lint_access.proofs.reads.Given as goal

abbrev pub invariant-loop-k : goal.invariant-loop-k
invariant-loop-k l =
    over (add_reads_m l.s (section_by l.entities l.many)) l.list l.count 0 l.initial.set
    ≡ over (add_reads_m l.s (section_by l.entities l.many)) l.list (l.count - l.k) l.k l.set
