use Prim.Native.Nat.{◌-◌}
use Rattle.lint_collect.proofs.Laws as laws
use Rattle.lint_collect.proofs.cycle_words.Goals as goal

pub returns : goal.returns
returns c = laws.cycle_is _ _ _ _ c.cycle_writes-writes.ensures c.highest-tier.ensures
