use mathlib.Core.Path.{◌≡◌}
use mathlib.Core.List.{List}
use Prim.Native.Nat.{◌+◌, ◌-◌, ◌≤◌}
use lib.ListN.{drop}
use Rattle.runs.specs.declared.Run.{Run}
use Rattle.runs.specs.Lists.{tally}
use Rattle.runs.specs.Runs.{run_of, Held}
use Rattle.runs.proofs.count_runs.Given as goal

abbrev pub invariant-loop-k : goal.invariant-loop-k
invariant-loop-k s =
    (s.k ≤ s.n) × ((s.many ≤ s.k) × ((l : List Run) → Held s.a s.n l →
    tally (run_of s.automation) l ≡ s.many + tally (run_of s.automation) (drop s.k l)))
