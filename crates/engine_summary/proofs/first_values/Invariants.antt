use Prim.Native.Nat.{◌-◌, ◌≤◌}
use Rattle.engine_summary.specs.Summaries.{Firsts}
use Rattle.engine_summary.proofs.first_values.Given as goal

abbrev pub invariant-loop-e : goal.invariant-loop-e
invariant-loop-e l = Firsts l.values l.e l.places × ((l.e ≤ l.n) × (l.n ≤ 32))
