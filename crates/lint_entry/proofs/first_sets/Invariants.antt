use mathlib.Core.Path.{◌≡◌}
use Prim.Native.Nat.{◌-◌}
use lib.ListN.{get_or}
use Rattle.lint_collect.specs.Collect.{fill_m}
use Rattle.lint_entry.specs.Promises.{first_m}
use Rattle.lint_entry.proofs.first_sets.Given as goal

abbrev pub invariant-loop-i : goal.invariant-loop-i
invariant-loop-i l = first_m l.sets l.n ≡ fill_m (λ i. get_or l.sets i 0) (l.n - l.i) l.i l.list
