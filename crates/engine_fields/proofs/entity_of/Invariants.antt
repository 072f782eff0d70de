use mathlib.Core.Path.{◌≡◌}
use Rattle.engine_fields.specs.Fields.{entity_of, entity_from}
use Prim.Native.Nat.{◌-◌, ◌≤◌}
use Rattle.engine_fields.proofs.entity_of.Given as goal

abbrev pub invariant-loop-e : goal.invariant-loop-e
invariant-loop-e l = (entity_of l.x l.id ≡ entity_from l.x l.id (l.n - l.e) l.e) × (l.e ≤ l.n)
