use mathlib.Core.Path.{◌≡◌}
use Prim.Native.Nat.{ℕ, ◌-◌, ◌≤◌}
use lib.ListN.{get_or}
use Rattle.texts.specs.Lists.{each, through}
use Rattle.lint_reads_lines.specs.Numbers.{lesser, is_read, strange_places}
use Rattle.lint_words.proofs.Loops.{from_on}
use Rattle.lint_reads_lines.proofs.stranger_from.Given as goal

abbrev pub invariant-loop-k : goal.invariant-loop-k
invariant-loop-k l =
    (through (lesser l.from) (strange_places l.r l.i) l.best
    ≡ through (lesser l.from) (each (λ (j : ℕ). get_or l.r.names j 0) (from_on 64 (is_read l.r l.i) l.k)) l.least) × (l.k ≤ 64)
