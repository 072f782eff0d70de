use mathlib.Core.Path.{◌≡◌}
use mathlib.Core.List.{List}
use Prim.Native.Nat.{◌-◌, ◌*◌, ◌≤◌}
use lib.ListN.{length}
use Rattle.runs.specs.declared.Run.{Run}
use Rattle.runs.specs.Runs.{other, Held}
use Rattle.runs.proofs.Laws as laws
use Rattle.runs.proofs.drop_runs.Given as goal

abbrev pub invariant-loop-k : goal.invariant-loop-k
invariant-loop-k s =
    (s.k ≤ s.left) × ((s.left * 28 ≤ length s.initial.a) × ((length s.a ≡ length s.initial.a)
    × ((l : List Run) → Held s.initial.a s.n l → laws.Kept (other s.automation) l (length s.initial.a) s.k s.left s.a)))

abbrev pub decreases-loop-k : goal.decreases-loop-k
decreases-loop-k l = l.left - l.k
