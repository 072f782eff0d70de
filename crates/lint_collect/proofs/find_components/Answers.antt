use Prim.Native.Nat.{◌-◌}
use Rattle.lint_collect.proofs.Array as array
use Rattle.lint_collect.proofs.find_components.Goals as goal

pub cycles-requires : goal.cycles-requires
cycles-requires c = (c.requires, rw c.edges.ensures (array.edges_full _ _ _ c.requires))

pub returns : goal.returns
returns c = rw c.edges.ensures at c.cycles.ensures
