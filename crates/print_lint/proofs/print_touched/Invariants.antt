use mathlib.Core.Path.{◌≡◌}
use lib.ListN.{length}
use Rattle.print_lint.proofs.print_touched.Given as goal

abbrev pub invariant-loop : goal.invariant-loop
invariant-loop l = length l.out ≡ length l.initial.out
