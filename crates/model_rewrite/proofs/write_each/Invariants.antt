use Prim.Native.Nat.{◌-◌, ◌≤◌}
use lib.ListN.{length}
use Rattle.model_rewrite.specs.Written.{first_events, Wrote}
use mathlib.Core.Path.{◌≡◌}
use Rattle.model_rewrite.proofs.write_each.Given as goal

abbrev pub invariant-loop-k : goal.invariant-loop-k
invariant-loop-k l = (l.k ≤ l.n) × ((length l.out ≡ length l.initial.out) × Wrote (first_events l.events l.k) l.at l.initial.out l.out)
