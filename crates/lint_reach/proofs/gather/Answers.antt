use native.Mathlib.Omega.{arith}
use Rattle.lint_reach.proofs.ComponentLaws as parts
use Prim.Native.Nat.{◌-◌}
use Rattle.lint_reach.proofs.gather.Goals as goal

pub loop-i-init : goal.loop-i-init
loop-i-init c = (parts.gathered_none _ _, omega arith)

pub loop-i-preserved : goal.loop-i-preserved
loop-i-preserved c = (
  parts.gathered_more _ _ _ _ _ c.loop-i-test.true c.requires.0 c.loop-i.invariant.0
      c.with_component-found.ensures,
  omega arith,
)

pub returns : goal.returns
returns c = parts.gathered_all _ _ _ _ c.loop-i-test.false c.loop-i.invariant.1 c.loop-i.invariant.0
