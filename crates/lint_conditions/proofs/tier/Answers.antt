use Prim.Native.Nat.{◌-◌}
use Rattle.lint_conditions.proofs.Laws as laws
use Rattle.lint_walk.specs.Raw.{past}
use Rattle.lint_conditions.proofs.tier.Goals as goal

pub returns : goal.returns
returns c =
    laws.tier_at _ _ c.past-domain.ensures c.place_at-count.ensures c.past.ensures
    c.past-2.ensures c.byte_at.ensures
