use Prim.Native.Nat.{◌-◌}
use Rattle.lint_conditions.proofs.Laws as laws
use Rattle.lint_walk.specs.Raw.{past}
use Rattle.lint_conditions.proofs.stale.Goals as goal

pub returns : goal.returns
returns c =
    laws.stale_at _ _ c.past-domain.ensures c.place_at-count.ensures c.past.ensures
    c.past-2.ensures c.number_at.ensures
