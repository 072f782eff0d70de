use mathlib.Core.Path.{◌≡◌}
use mathlib.Core.List.{List}
use Prim.Native.Nat.{◌-◌, ◌≤◌}
use lib.ListN.{drop}
use Rattle.runs.specs.declared.Run.{Run}
use Rattle.runs.specs.Lists.{place_from}
use Rattle.runs.specs.Runs.{is_run, Held}
use Rattle.runs.proofs.find_run.Given as goal

abbrev pub invariant-loop-k : goal.invariant-loop-k
invariant-loop-k s =
    (s.k ≤ s.n) × ((l : List Run) → Held s.a s.n l →
    place_from (is_run s.automation s.sequence) 0 l ≡ place_from (is_run s.automation s.sequence) s.k (drop s.k l))
