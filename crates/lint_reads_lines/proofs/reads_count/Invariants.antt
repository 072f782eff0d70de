use mathlib.Core.Path.{◌≡◌}
use Prim.Native.Nat.{◌+◌, ◌≤◌, ◌-◌}
use lib.ListN.{length}
use Rattle.lint_reads_lines.specs.Numbers.{ascending, read_places}
use Rattle.lint_reads_lines.proofs.reads_count.Given as goal

abbrev pub invariant-loop : goal.invariant-loop
invariant-loop l =
    (length (ascending 97 0 (read_places l.f l.entities l.r l.i)) ≡ l.many + length (ascending (97 - l.counter) l.from (read_places l.f l.entities l.r l.i)))
    × (l.many + (97 - l.counter) ≤ 97)
